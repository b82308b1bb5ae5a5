-- Walks along arcs.
use Rattle.std.specs.Prelude.{◌≡◌, ℕ, ◌+◌, ◌<◌, ◌≤◌, ◌⊎◌, Bool, List, length, slice_index_or}
use Rattle.std.specs.List.{Contains}
use Rattle.line_instance.specs.Truths.{In}
use Rattle.line_instance.specs.declared.arcs.Prec.{Prec}

-- an arc leads from i to j
abbrev pub Leads : List Prec → ℕ → ℕ → Type 0
Leads arcs i j = Contains arcs (record { first = i; «then» = j })

-- a nonempty walk leads from i to j: an arc is a walk, and so is a walk with one more arc (Scholl)
pub data Walk (arcs : List Prec) : ℕ → ℕ → Type 0 where
  arc : {i j : ℕ} → Leads arcs i j → Walk arcs i j
  on : {i j k : ℕ} → Walk arcs i j → Leads arcs j k → Walk arcs i k

-- the row has the tasks from which a walk leads to t
pub record IsRow (arcs : List Prec) (row : List Bool) (t : ℕ) : Type 0 where
  pub walks : (i : ℕ) → In row i → Walk arcs i t
  pub all : (i : ℕ) → Walk arcs i t → In row i

-- the arc at place k
abbrev pub arc_at : List Prec → ℕ → Prec
arc_at arcs k = slice_index_or arcs k (record { first = 0; «then» = 0 })

-- both ends of the arc are tasks below n
abbrev pub Names : ℕ → Prec → Type 0
Names n a = (a.first < n) × (a.«then» < n)

-- each arc names two tasks below n
abbrev pub AreArcs : ℕ → List Prec → Type 0
AreArcs n arcs = (k : ℕ) → k < length arcs → Names n (arc_at arcs k)

-- the pairs that are given to be apart: each of two tasks
abbrev pub ArePairs : ℕ → List Prec → Type 0
ArePairs n pairs = (k : ℕ) → k < length pairs → Names n (arc_at pairs k)
    × ((arc_at pairs k).first ≡ (arc_at pairs k).«then» → ⊥)

-- one of the pairs is of i and j, in either order
abbrev pub IsGiven : List Prec → ℕ → ℕ → Type 0
IsGiven pairs i j = Leads pairs i j ⊎ Leads pairs j i

-- the member of a list at place k
abbrev pub at : List ℕ → ℕ → ℕ
at ring k = slice_index_or ring k 0

-- A closed list for a relation: each member is so related to the next and the last to the first, none stands twice, and
-- the first is the least.
pub record IsRingOf (R : ℕ → ℕ → Type 0) (ring : List ℕ) : Type 0 where
  pub some : 0 < length ring
  pub leads : (k : ℕ) → k + 1 < length ring → R (at ring k) (at ring (k + 1))
  pub closes : (k : ℕ) → k + 1 ≡ length ring → R (at ring k) (at ring 0)
  pub once : (k m : ℕ) → k < length ring → m < length ring → at ring k ≡ at ring m → k ≡ m
  pub least : (k : ℕ) → k < length ring → at ring 0 ≤ at ring k

-- a closed walk of arcs without a repeated task, written from its least task
abbrev pub IsRing : List Prec → List ℕ → Type 0
IsRing arcs ring = IsRingOf (Leads arcs) ring
