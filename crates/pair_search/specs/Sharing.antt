-- Which tasks above a third of a cycle may share a station, whatever set they are in. Own; after the conflict graphs of
-- bin packing of Martello and Toth, 1990.
use Rattle.std.specs.Prelude.{◌≡◌, ◌≢◌, ℕ, ◌*◌, ◌<◌, ◌↔◌, Bool, List, [], length, slice_index_or}
use Rattle.line_instance.specs.Truths.{In, full_to}
use Rattle.line_instance.specs.Line.{Line, tasks, time}
use Rattle.line_rules.specs.declared.types.LineKind.{LineKind}
use Rattle.line_rules.specs.Pairs.{Conflict}

-- what a table tells: the kind of line and the cycle that it was made for, the tasks that are long at that cycle, and
-- for each of them a row with those that it shares with (own)
pub record Sharing : Type 0 where
  pub kind : LineKind
  pub cycle : ℕ
  pub long : List Bool
  pub rows : List (List Bool)

-- long has the tasks above a third of c (own; after the bin packing bounds of Martello and Toth, 1990)
pub record AreLong (line : Line) (c : ℕ) (long : List Bool) : Type 0 where
  pub truths : length long ≡ 1024
  pub members : (j : ℕ) → In long j ↔ ((j < tasks line) × (c < 3 * time line j))

-- row has the long tasks other than i that don't conflict with i in the set of all tasks (own)
pub record IsRowOf (kind : LineKind) (line : Line) (c : ℕ) (long : List Bool) (i : ℕ) (row : List Bool) : Type 0 where
  pub truths : length row ≡ 1024
  pub within : (j : ℕ) → In row j → In long j × (j ≢ i)
  pub share : (j : ℕ) → In row j → Conflict kind line c (full_to (tasks line)) i j → ⊥
  pub conflict : (j : ℕ) → In long j → j ≢ i → (In row j → ⊥) → Conflict kind line c (full_to (tasks line)) i j

-- a table is of a line: its long tasks are the line's at its cycle, and each of them has its row (own)
pub record IsTableOf (line : Line) (t : Sharing) : Type 0 where
  pub long : AreLong line t.cycle t.long
  pub many : length t.rows ≡ tasks line
  pub row : (i : ℕ) → In t.long i → IsRowOf t.kind line t.cycle t.long i (slice_index_or t.rows i [])
