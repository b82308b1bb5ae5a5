-- The report of an optimum, whichever search of a run found it.
use Rattle.std.specs.Prelude.{◌≡◌, ℕ, List}
use Rattle.line_instance.specs.Line.{Line}
use Rattle.line_rules.specs.declared.types.LineKind.{LineKind}
use Rattle.line_rules.specs.declared.types.Entry.{Entry}
use Rattle.line_rules.specs.declared.types.Certificate.{Certificate}
use Rattle.round_run.specs.declared.plans.Plan.{Plan}
use Rattle.command_outcome.specs.declared.report.Kept.{Kept}
use Rattle.command_outcome.specs.declared.report.Kept.TheVariants.{Line as Certified}
use Rattle.command_outcome.specs.declared.status.Status.{Status}
use Rattle.command_outcome.specs.declared.status.Status.TheVariants as ends
use Rattle.command_solve.specs.Solution.{IsToldOptimal}
use Rattle.task_names.specs.declared.naming.Naming.{Naming}

-- a report tells an optimum of a search of this plan, which began with these entries, behind these first lines, and
-- keeps its certificate
pub record IsOptimalReport (naming : Naming) (kind : LineKind) (line : Line) (c : ℕ) (plan : Plan)
    (before : List Entry) (first : List ℕ) (status : Status) (text : List ℕ) (kept : Kept) : Type 0 where
  pub certificate : Certificate
  pub keeps : kept ≡ Certified certificate
  pub done : status ≡ ends.Done
  pub told : IsToldOptimal naming kind line c plan before first certificate text
