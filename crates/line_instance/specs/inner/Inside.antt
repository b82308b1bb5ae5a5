-- What the steps of making an instance say of rows of sets.
use Rattle.std.specs.Prelude.{◌≡◌, ℕ, ◌+◌, ◌<◌, ◌≤◌, ◌⊎◌, ◌↔◌, Bool, false, List, [], length, slice_index_or, slice_get}
use Rattle.std.specs.Prelude.{Some, take}
use Rattle.line_instance.specs.Truths.{In, IsSubset}
use Rattle.line_instance.specs.Line.{Line, IsLine, IsRanked, tasks}
use Rattle.line_instance.specs.Walks.{Leads, IsGiven, at}
use Rattle.line_instance.specs.Partners.{AreKept}
use Rattle.line_instance.specs.declared.partners.Kept.{Kept}
use Rattle.line_instance.specs.declared.arcs.Prec.{Prec}

-- n sets, of tasks below n
pub record AreRows (n : ℕ) (rows : List (List Bool)) : Type 0 where
  pub many : length rows ≡ n
  pub truths : (t : ℕ) → t < n → length (slice_index_or rows t []) ≡ 1024
  pub tasks : (i t : ℕ) → In (slice_index_or rows t []) i → (i < n) × (t < n)

-- row t has the tasks with an arc to t
pub record AreDirect (n : ℕ) (arcs : List Prec) (rows : List (List Bool)) : Type 0 where
  pub sets : AreRows n rows
  pub there : (i t : ℕ) → Leads arcs i t → In (slice_index_or rows t []) i
  pub only : (i t : ℕ) → In (slice_index_or rows t []) i → Leads arcs i t

-- t is free: it isn't placed, and the tasks with an arc to it are
pub record MayCome (direct : List (List Bool)) (placed : List Bool) (t : ℕ) : Type 0 where
  pub task : t < length direct
  pub new : slice_index_or placed t false ≡ false
  pub ready : IsSubset (slice_index_or direct t []) placed

-- t is the least that is free
pub record IsLeastFree (direct : List (List Bool)) (placed : List Bool) (t : ℕ) : Type 0 where
  pub may : MayCome direct placed t
  pub least : (s : ℕ) → s < t → MayCome direct placed s → ⊥

-- t is placed at a place below k
abbrev pub StandsBelow : List ℕ → ℕ → ℕ → Type 0
StandsBelow order k t = (m : ℕ) × (m < k) × (at order m ≡ t)

-- each place of the order has the least task that was free there
pub record IsOrder (direct : List (List Bool)) (order : List ℕ) : Type 0 where
  pub small : (k : ℕ) → k < length order → at order k < length direct
  pub once : (k m : ℕ) → k < length order → m < length order → at order k ≡ at order m → k ≡ m
  pub ready : (k i : ℕ) → k < length order → In (slice_index_or direct (at order k) []) i → StandsBelow order k i
  pub least : (k t : ℕ) → k < length order → t < length direct → (StandsBelow order k t → ⊥)
      → ((i : ℕ) → In (slice_index_or direct t []) i → StandsBelow order k i) → at order k ≤ t

-- an order so far, and the set of its tasks
pub record IsOrdering (direct : List (List Bool)) (placed : List Bool) (order : List ℕ) : Type 0 where
  pub truths : length placed ≡ 1024
  pub order_is : IsOrder direct order
  pub stands : (t : ℕ) → In placed t → StandsBelow order (length order) t
  pub holds : (k : ℕ) → k < length order → In placed (at order k)

-- an order of all tasks
pub record IsWhole (direct : List (List Bool)) (order : List ℕ) : Type 0 where
  pub order_is : IsOrder direct order
  pub many : length order ≡ length direct
  pub stands : (t : ℕ) → t < length direct → StandsBelow order (length order) t

-- some task isn't placed, and no such task is free
pub record IsStuck (direct : List (List Bool)) (placed : List Bool) : Type 0 where
  pub some : (t : ℕ) × (t < length direct) × (slice_index_or placed t false ≡ false)
  pub none : (t : ℕ) → MayCome direct placed t → ⊥

-- by the rows, an arc leads from i to j
abbrev pub LeadsIn : List (List Bool) → ℕ → ℕ → Type 0
LeadsIn direct i j = In (slice_index_or direct j []) i

-- An arc leads to each member of the path from the next one, no member stands twice, and an arc leads to the last one
-- from a task that stands on the path.
pub record IsBackWalk (direct : List (List Bool)) (path : List ℕ) (again : ℕ) : Type 0 where
  pub leads : (k : ℕ) → k + 1 < length path → LeadsIn direct (at path (k + 1)) (at path k)
  pub last : (k : ℕ) → k + 1 ≡ length path → LeadsIn direct again (at path k)
  pub once : (k m : ℕ) → k < length path → m < length path → at path k ≡ at path m → k ≡ m
  pub stands : (k : ℕ) × (k < length path) × (at path k ≡ again)

-- the list has grown by members of the path from place `to` down to place `from`, `to` left out
pub record IsAppended (old path : List ℕ) (from to : ℕ) (new : List ℕ) : Type 0 where
  pub long : length new + from ≡ length old + to
  pub kept : (k : ℕ) → k < length old → at new k ≡ at old k
  pub added : (k i : ℕ) → from ≤ i → i < to → k + i + 1 ≡ length old + to → at new k ≡ at path i

-- the row has the direct tasks and those of their rows
pub record IsJoined (direct : List Bool) (rows : List (List Bool)) (row : List Bool) : Type 0 where
  pub truths : length row ≡ 1024
  pub from : (i : ℕ) → In row i → (j : ℕ) × In direct j × ((i ≡ j) ⊎ In (slice_index_or rows j []) i)
  pub all : (i j : ℕ) → In direct j → (i ≡ j) ⊎ In (slice_index_or rows j []) i → In row i

-- each row has the direct tasks and those of their rows
pub record AreJoined (direct rows : List (List Bool)) : Type 0 where
  pub many : length rows ≡ length direct
  pub joined : (t : ℕ) → t < length direct → IsJoined (slice_index_or direct t []) rows (slice_index_or rows t [])

-- the rows turned round: row i has j where row j had i
pub record AreTurned (before after : List (List Bool)) : Type 0 where
  pub sets : AreRows (length before) after
  pub same : (i j : ℕ) → LeadsIn before i j ↔ LeadsIn after j i

-- the rows of the members have got one member more
pub record AreMarked (old : List (List Bool)) (chosen : List Bool) (mark : ℕ) (new : List (List Bool)) : Type 0 where
  pub many : length new ≡ length old
  pub truths : (t : ℕ) → length (slice_index_or new t []) ≡ length (slice_index_or old t [])
  pub from : (i t : ℕ) → In (slice_index_or new t []) i → In (slice_index_or old t []) i ⊎ (In chosen t × (i ≡ mark))
  pub kept : (i t : ℕ) → In (slice_index_or old t []) i → In (slice_index_or new t []) i
  pub here : (t : ℕ) → In chosen t → In (slice_index_or new t []) mark

-- n empty sets
pub record AreEmpty (n : ℕ) (rows : List (List Bool)) : Type 0 where
  pub sets : AreRows n rows
  pub none : (i t : ℕ) → In (slice_index_or rows t []) i → ⊥

-- row t has the tasks that a pair joins to t
pub record ArePaired (n : ℕ) (pairs : List Prec) (rows : List (List Bool)) : Type 0 where
  pub sets : AreRows n rows
  pub there : (i t : ℕ) → IsGiven pairs i t → In (slice_index_or rows t []) i
  pub only : (i t : ℕ) → In (slice_index_or rows t []) i → IsGiven pairs i t

-- the places go over the tasks, each task once
pub record IsPermutation (order : List ℕ) : Type 0 where
  pub small : (k : ℕ) → k < length order → at order k < length order
  pub stands : (t : ℕ) → t < length order → StandsBelow order (length order) t
  pub once : (k m : ℕ) → k < length order → m < length order → at order k ≡ at order m → k ≡ m

-- the rank of each task
pub record AreRanksOf (order ranks : List ℕ) : Type 0 where
  pub many : length ranks ≡ length order
  pub small : (i : ℕ) → i < length order → at ranks i < length order
  pub task : (i : ℕ) → i < length order → at order (at ranks i) ≡ i

-- the instance of these rows, for what doesn't ask for ranks
abbrev pub of_rows : List ℕ → List (List Bool) → List (List Bool) → Line
of_rows times before apart = record { times = times; before = before; apart = apart; order = [] }

-- the tasks that are kept
abbrev pub kept_of : Kept → List ℕ
kept_of kept = take kept.many kept.tasks

-- each task's kept partners
pub record ArePartners (line : Line) (partners : List Kept) : Type 0 where
  pub many : length partners ≡ tasks line
  pub room : (i : ℕ) (kept : Kept) → slice_get partners i ≡ Some kept → (length kept.tasks ≡ 8) × (kept.many ≤ 8)
  pub right : (i : ℕ) (kept : Kept) → slice_get partners i ≡ Some kept → AreKept line i (kept_of kept)

-- what an instance keeps beside its value: the tasks after each one, each task's rank, and its kept partners
pub record IsSound (after : List (List Bool)) (ranks : List ℕ) (partners : List Kept) (line : Line) : Type 0 where
  pub line_is : IsLine line
  pub ranked : IsRanked line
  pub turned : AreTurned line.before after
  pub rank_is : AreRanksOf line.order ranks
  pub partners_are : ArePartners line partners
