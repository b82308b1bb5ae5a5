-- How many entries a question adds, and which job of a list is one of the question.
use Rattle.std.proofs.Common.{◌≡◌, ℕ, ◌+◌, ◌≤◌, List, refl, sym, subst, arith, Some}
use Rattle.std.specs.Prelude.{slice_get}
use Rattle.line_instance.specs.Line.{Line}
use Rattle.line_rules.specs.Balance.{all_tasks}
use Rattle.line_rules.specs.declared.types.LineKind.{LineKind}
use Rattle.line_rules.specs.declared.types.Load.{Load}
use Rattle.line_rules.proofs.ListFacts.{get_take, get_unmap}
use Rattle.round_helpers.specs.Jobs.{AreJobs, IsJobOf, job_of, max_jobs}
use Rattle.station_search.specs.declared.beside.DecidedBeside.{DecidedBeside}
use Rattle.station_search.specs.declared.beside.DecidedBeside.TheVariants as decided
use Rattle.station_search.specs.Beside.{most_added}
use Rattle.round_helpers.specs.declared.job_list.Job.{Job}

-- a question adds at most one entry more than units
pub decided_few : (r : DecidedBeside) (n : ℕ) → most_added n r ≤ n + 1
decided_few (decided.Refuted reason) n = omega arith
decided_few (decided.Found loads) n = omega arith
decided_few decided.Spent n = omega arith
decided_few decided.Ended n = omega arith
decided_few decided.NoMemory n = omega arith

-- each job of the list is one of the question
pub job_is : (kind : LineKind) (line : Line) (c most : ℕ) (jobs : List Job) (k : ℕ) (j : Job)
    → AreJobs kind line c most jobs → slice_get jobs k ≡ Some j
    → IsJobOf kind line c most j
job_is kind line c most jobs k j are e =
    let m : (l : Load) × (slice_get are.firsts k ≡ Some l) × (j ≡ job_of (all_tasks line) l) =
    get_unmap (job_of (all_tasks line)) are.firsts k j (subst (λ (z : List Job). slice_get z k ≡ Some j) are.each e) in
    let P : List Load → Type 0 = λ z. slice_get z k ≡ Some m.0 in
    let Q : Job → Type 0 = λ z. IsJobOf kind line c most z in
    subst Q (sym m.2) (record {
      opens = (are.are.picked.sound k m.0 (get_take are.are.left max_jobs k m.0 (subst P are.are.first m.1)).1).0;
      set = refl;
    })
