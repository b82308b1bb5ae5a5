-- The first loads of a set that a search would have to go into, and the jobs of a question, which are those of all
-- tasks.
use Rattle.std.specs.Prelude.{◌≡◌, ℕ, Bool, List, map, take}
use Rattle.std.specs.List.{Contains}
use Rattle.line_instance.specs.Line.{Line}
use Rattle.line_rules.specs.Balance.{all_tasks}
use Rattle.line_rules.specs.Loads.{IsLoad, rest}
use Rattle.line_rules.specs.Order.{Lists}
use Rattle.line_rules.specs.Entries.{IsOpen}
use Rattle.line_rules.specs.declared.types.LineKind.{LineKind}
use Rattle.line_rules.specs.declared.types.Load.{Load}
use Rattle.station_search.specs.Mode.{mode_of}
use Rattle.round_helpers.specs.declared.job_list.Job.{Job}

-- how many loads are gone over for jobs, and how many jobs there are at most
unfoldable pub max_loads : ℕ
max_loads = 65536

unfoldable pub max_jobs : ℕ
max_jobs = 4096

-- The first m loads of a set R, in their order, of those among its first n loads that are full and whose rest the bound
-- leaves open for one station less than `most`. (Own.)
pub record AreFirst (kind : LineKind) (line : Line) (c : ℕ) (R : List Bool) (n m most : ℕ)
    (firsts : List Load) : Type 0 where
  pub loads : List Load
  pub listed : Lists line (IsLoad line c (mode_of kind line R) R) loads
  pub left : List Load
  pub picked : Lists line (λ l. IsOpen kind line c (mode_of kind line R) R most l × Contains (take n loads) l) left
  pub first : firsts ≡ take m left

-- the job of a load of R: the load, and the rest that it leaves
abbrev pub job_of : List Bool → Load → Job
job_of R l = record { set = rest R l; load = l }

-- The jobs of the question whether all tasks have a balance in `most` stations, in their order: the first 4,096 of the
-- loads among the first 65,536 that are full and whose rest the bound leaves open for one station less. (Own.)
pub record AreJobs (kind : LineKind) (line : Line) (c most : ℕ) (jobs : List Job) : Type 0 where
  pub firsts : List Load
  pub are : AreFirst kind line c (all_tasks line) max_loads max_jobs most firsts
  pub each : jobs ≡ map (job_of (all_tasks line)) firsts

-- a job of the question of `most` stations: a load that the bound leaves open, and its rest
pub record IsJobOf (kind : LineKind) (line : Line) (c most : ℕ) (job : Job) : Type 0 where
  pub opens : IsOpen kind line c (mode_of kind line (all_tasks line)) (all_tasks line) most job.load
  pub set : job.set ≡ rest (all_tasks line) job.load
