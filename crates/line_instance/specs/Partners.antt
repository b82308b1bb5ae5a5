-- The tasks that may stand in for a task.
use Rattle.std.specs.Prelude.{◌≡◌, ℕ, ◌+◌, ◌<◌, ◌≤◌, ◌⊎◌, List, Option, length, slice_get}
use Rattle.line_instance.specs.Line.{Line, tasks, time, Before, Apart}
use Rattle.line_instance.specs.Walks.{at}

-- j is a partner of i: another task, of no greater time, with all tasks before it but i before i, all after it but i
-- after i, and all apart from it but i apart from i
pub record IsPartner (line : Line) (i j : ℕ) : Type 0 where
  pub task : j < tasks line
  pub other : i ≡ j → ⊥
  pub no_longer : time line j ≤ time line i
  pub before : (k : ℕ) → Before line k j → (k ≡ i → ⊥) → Before line k i
  pub after : (k : ℕ) → Before line j k → (k ≡ i → ⊥) → Before line i k
  pub apart : (k : ℕ) → Apart line k j → (k ≡ i → ⊥) → Apart line k i

-- j is in the list
abbrev pub IsAmong : List ℕ → ℕ → Type 0
IsAmong list j = (k : ℕ) × (k < length list) × (at list k ≡ j)

-- The kept partners of i: at most eight, ascending; each partner is kept, or eight below it are.
pub record AreKept (line : Line) (i : ℕ) (kept : List ℕ) : Type 0 where
  pub few : length kept ≤ 8
  pub rises : (k : ℕ) → k + 1 < length kept → at kept k < at kept (k + 1)
  pub right : (k : ℕ) → k < length kept → IsPartner line i (at kept k)
  pub first : (j : ℕ) → IsPartner line i j → IsAmong kept j
      ⊎ ((length kept ≡ 8) × ((k : ℕ) → k < length kept → at kept k < j))

-- the answer is the k-th kept partner of i, and None where fewer are kept
abbrev pub IsKeptAt : Line → ℕ → ℕ → Option ℕ → Type 0
IsKeptAt line i k answer = (kept : List ℕ) × AreKept line i kept × (answer ≡ slice_get kept k)
