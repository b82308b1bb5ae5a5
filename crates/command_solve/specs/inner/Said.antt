-- What the files of a run say, and why they say none. (Own.)
use Rattle.std.specs.Prelude.{◌⊎◌, ℕ, List, Option}
use Rattle.line_instance.specs.Line.{Line}
use Rattle.line_rules.specs.declared.types.LineKind.{LineKind}
use Rattle.line_rules.specs.declared.types.Entry.{Entry}
use Rattle.round_run.specs.declared.plans.Plan.{Plan}
use Rattle.command_outcome.specs.Found.{Search}
use Rattle.command_outcome.specs.Outcome.{Files, Outside, Outcome}
use Rattle.input_files.specs.Instance.{IsSaid, IsUnsaid}
use Rattle.command_solve.specs.WarmStart.{AreOld}
use Rattle.command_solve.specs.Solution.{fewest_stations, IsSaidUnwarmed}
use Rattle.command_solve.specs.declared.effort.Effort.{Effort}
use Rattle.command_solve.specs.declared.said.Said.{Said}

-- the files say the line, the cycle time, and the old entries, where the words name a file of them
pub record HasSaid (files : Files) (file : List ℕ) (apart warm : Option (List ℕ)) (word : Option ℕ) (kind : LineKind)
    (line : Line) (c : ℕ) (olds : Option (List Entry)) : Type 0 where
  pub said : IsSaid files file apart word line c
  pub old : AreOld files warm kind line olds

-- the files say no line with a cycle time; or they do, and the file of the old certificate says none to begin with
abbrev pub IsUnsaidOrUnwarmed : Outside → List ℕ → Option (List ℕ) → Option (List ℕ) → Option ℕ → LineKind
    → Outcome → Type 0
IsUnsaidOrUnwarmed o file apart warm word kind out =
    IsUnsaid o file apart word out ⊎ IsSaidUnwarmed o file apart warm word kind out

-- the search for the line, the cycle time and the old entries that are said, and what is spent before it
abbrev pub search_of : Said → LineKind → Effort → Plan → Search
search_of said kind effort plan =
    fewest_stations said.timed.naming kind said.timed.inst said.timed.cycle plan
    (record { olds = said.olds; effort = effort })
