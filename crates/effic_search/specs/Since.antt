-- The entries of a cycle behind the last one of all tasks at it.
use Rattle.std.specs.Prelude.{◌≡◌, ◌⊎◌, ℕ, List, [], ◌∷◌, ◌++◌, slice_get, Some}
use Rattle.line_instance.specs.Line.{Line}
use Rattle.line_rules.specs.Balance.{all_tasks}
use Rattle.line_rules.specs.Units.{entries_at}
use Rattle.line_rules.specs.declared.types.Entry.{Entry}

-- the list ends with an entry of all tasks at X
abbrev pub EndsWithGoal : Line → ℕ → List Entry → Type 0
EndsWithGoal line X es = (earlier : List Entry) × (e : Entry) × (es ≡ earlier ++ e ∷ []) × (e.cycle ≡ X)
    × (e.set ≡ all_tasks line)

-- the entries of cycle X behind the last one of all tasks at X
pub record IsSinceGoal (line : Line) (X : ℕ) (es since : List Entry) : Type 0 where
  pub before : List Entry
  pub behind : List Entry
  pub all : es ≡ before ++ behind
  pub goal : (before ≡ []) ⊎ EndsWithGoal line X before
  pub last : (k : ℕ) (e : Entry) → slice_get behind k ≡ Some e → e.cycle ≡ X → e.set ≡ all_tasks line → ⊥
  pub are : since ≡ entries_at X behind
