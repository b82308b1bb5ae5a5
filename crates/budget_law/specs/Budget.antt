-- How few the units at a cycle are: of the entries of that cycle, and of a trail at it.
use Rattle.std.specs.Prelude.{◌≡◌, ℕ, ◌+◌, ◌*◌, ◌^◌, ◌<◌, List, Option, Some, None}
use Rattle.line_instance.specs.Line.{Line, IsLine, IsRanked, tasks}
use Rattle.line_rules.specs.Balance.{all_tasks}
use Rattle.line_rules.specs.Bounds.{IsTooLong}
use Rattle.line_rules.specs.Entries.{IsDerived, IsFreshAt}
use Rattle.line_rules.specs.Trails.{IsTrail}
use Rattle.line_rules.specs.Units.{UnitsAt}
use Rattle.line_rules.specs.declared.types.LineKind.{LineKind}
use Rattle.line_rules.specs.declared.types.LineKind.TheVariants.{Straight, U}
use Rattle.line_rules.specs.declared.types.Entry.{Entry}
use Rattle.line_rules.specs.declared.types.Trail.{Trail}

-- how many things a task can be to a set and a load of it: outside the set, left in it, or taken by the load; on a
-- U-line taken in front or taken at the back
abbrev pub states : LineKind → ℕ
states Straight = 3
states U = 4

-- the trail, where there is one at X, is a valid trail at X from the question of all tasks in some number of stations
abbrev pub HasTrailAt : LineKind → Line → ℕ → List Entry → Option Trail → Type 0
HasTrailAt kind line X es None = Unit {0}
HasTrailAt kind line X es (Some trail) =
    trail.cycle ≡ X → (most : ℕ) × IsTrail kind line X es (all_tasks line) most trail.frames

-- The budget law: at a cycle X at which no task is too long, in a list that is derived and fresh at X, with a valid
-- trail where there is one at X, the units at X are fewer than (n + 1) x 3^n on a straight line of n tasks, and fewer
-- than (n + 1) x 4^n on a U-line.
abbrev pub UnitsAreFew : Type 0
UnitsAreFew =
    (kind : LineKind) (line : Line) → IsLine line → IsRanked line → (X : ℕ) → ((i : ℕ) → IsTooLong line X i → ⊥)
    → (es : List Entry) (trail : Option Trail)
    → IsDerived kind line es → IsFreshAt X es → HasTrailAt kind line X es trail
    → (units : ℕ) → UnitsAt line X es trail units → units < (tasks line + 1) * states kind ^ tasks line
