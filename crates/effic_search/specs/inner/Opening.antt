-- The first book of a search.
use Rattle.std.specs.Prelude.{◌≡◌, ◌⊎◌, ℕ, ◌+◌, ◌<◌, ◌≤◌, List, [], ◌∷◌, ◌++◌, length, slice_get, Some}
use Rattle.line_instance.specs.Line.{Line}
use Rattle.line_rules.specs.Balance.{all_tasks}
use Rattle.line_rules.specs.Units.{UnitsOf}
use Rattle.line_rules.specs.declared.types.LineKind.{LineKind}
use Rattle.line_rules.specs.declared.types.Entry.{Entry}
use Rattle.line_rules.specs.declared.types.Why.TheVariants as why
use Rattle.lemma_core.specs.Books.{BookView, IsReserved}
use Rattle.cycle_search.specs.Ends.{first_upper}
use Rattle.effic_search.specs.Counted.{AreGoalsByBound, others}
use Rattle.effic_search.specs.inner.Going.{IsFloored}
use Rattle.effic_search.specs.Since.{IsSinceGoal}

-- an entry by Bound of all tasks
abbrev pub IsGoalByBound : Line → Entry → Type 0
IsGoalByBound line e = (e.set ≡ all_tasks line) × (e.why ≡ why.Bound)

-- the entries stay, or one by Bound of all tasks was added
abbrev pub AddsGoal : Line → List Entry → List Entry → Type 0
AddsGoal line es new = (new ≡ es) ⊎ ((e : Entry) × (new ≡ es ++ e ∷ []) × IsGoalByBound line e)

-- A first book, for the numbers of stations from `least` to below `end`: its entries are by Bound of all tasks, at most
-- one for each number, and refute each of these below its first lower end. So it has no units, and at no cycle an entry
-- behind the last one of all tasks.
pub record IsFirstBook (kind : LineKind) (line : Line) (least end : ℕ) (b : BookView) : Type 0 where
  pub about : b.about ≡ record { line = line; kind = kind; cycle = first_upper line }
  pub reserved : IsReserved b
  pub clear : (X : ℕ) → IsSinceGoal line X b.state.entries []
  pub bounds : (k : ℕ) (e : Entry) → slice_get b.state.entries k ≡ Some e → e.why ≡ why.Bound
  pub goals : AreGoalsByBound line b.state.entries
  pub none : others b.state.entries ≡ 0
  pub units : UnitsOf line b.state.entries 0
  pub few : length b.state.entries + least ≤ end
  pub floored : (m : ℕ) → least ≤ m → m < end → IsFloored line b.state.entries m
