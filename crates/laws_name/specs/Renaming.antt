-- Answers that differ in the names of tasks alone (own).
use Rattle.std.specs.Prelude.{◌≡◌, ◌⊎◌, ℕ, List, ◌++◌}
use Rattle.line_rules.specs.declared.types.LineKind.{LineKind}
use Rattle.line_rules.specs.declared.types.Balance.{Balance as Assignment}
use Rattle.task_names.specs.declared.naming.Naming.{Naming}
use Rattle.station_report.specs.StationsText.{stations_text}
use Rattle.station_report.specs.InfeasibleText.{infeasible_text}
use Rattle.command_outcome.specs.Outcome.{Outcome}

-- Two texts have the same lines first. Behind them come the station lines of one balance, by the names of each.
pub record DifferInStations (naming other : Naming) (text renamed : List ℕ) : Type 0 where
  pub first : List ℕ
  pub kind : LineKind
  pub balance : Assignment
  pub by_these : text ≡ first ++ stations_text naming kind balance.stations balance.place
  pub by_others : renamed ≡ first ++ stations_text other kind balance.stations balance.place

-- Two texts are the line about one task that is too long, by the name that it has in each.
pub record DifferInTask (naming other : Naming) (text renamed : List ℕ) : Type 0 where
  pub task : ℕ
  pub time : ℕ
  pub by_these : text ≡ infeasible_text naming task time
  pub by_others : renamed ≡ infeasible_text other task time

-- Two texts are equal, but for the names of tasks in station lines, or in the line about a task that is too long.
abbrev pub DifferInNames : Naming → Naming → List ℕ → List ℕ → Type 0
DifferInNames naming other text renamed =
    DifferInStations naming other text renamed ⊎ DifferInTask naming other text renamed ⊎ (text ≡ renamed)

-- Two outcomes have the same status, the same certificate and the same page. Their texts differ in names at most.
pub record IsRenamed (naming other : Naming) (out renamed : Outcome) : Type 0 where
  pub status : renamed.status ≡ out.status
  pub kept : renamed.kept ≡ out.kept
  pub page : renamed.page ≡ out.page
  pub text : DifferInNames naming other out.text renamed.text

-- An outcome that is reached with some names has its like among those that are reached with others.
abbrev pub HasLike : Naming → Naming → Outcome → (Outcome → Type 0) → Type 0
HasLike naming other out Reached = (renamed : Outcome) × (Reached renamed × IsRenamed naming other out renamed)
