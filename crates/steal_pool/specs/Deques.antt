-- The rule of one deque, true between any two steps on it, and that of the tally beside it. What passes know of a deque
-- is the one's lists and the other's numbers. Own.
use Rattle.std.specs.Prelude.{◌≡◌, ℕ, ◌+◌, ◌%◌, ◌^◌, ◌≤◌, Bool, true, List, [], ◌∷◌, sum_by}
use mathlib.Core.Option.{some}
use lib.ListN.{get_elem?}
use Rattle.atomic_table.specs.Table.{State}
use Rattle.steal_pool.specs.declared.piece.Piece.{Piece}

-- What a pass knows of a deque: the pieces that it put on it, and those that it took from it, with their numbers. Its
-- parts are of the right to know the whole: there are 1,024.
pub record Log : Type 0 where
  pub parts : ℕ
  pub own : List Piece
  pub got : List Piece

-- What was put on a deque is what was taken from it and what it holds, however the pieces are weighed: so each number
-- that was put on it stands, with its piece, as often among those taken and those held. A pass with no part has neither
-- put nor taken a piece.
pub record IsShared (items : List Piece) (views : List Log) : Type 0 where
  pub parts : sum_by (λ (v : Log). v.parts) views ≡ 1024
  pub pieces : (h : Piece → ℕ)
      → sum_by (λ (v : Log). sum_by h v.own) views ≡ sum_by (λ (v : Log). sum_by h v.got) views + sum_by h items
  pub idle : (pass : ℕ) (v : Log) → get_elem? views pass ≡ some v → v.parts ≡ 0 → (v.own ≡ []) × (v.got ≡ [])

-- What a seat at the tally of a deque knows: its parts; whether it is the owner's, and how many pieces the owner has
-- put; how many pieces it reported as taken; how often it found that all that were put are taken; and the owner's mark,
-- which says so of now.
pub record Tally : Type 0 where
  pub parts : ℕ
  pub boss : Bool
  pub put : ℕ
  pub gone : ℕ
  pub found : ℕ
  pub mark : Bool

-- a seat among the others, where `put` pieces were put and `gone` were reported
pub record Fits (owner put gone seat : ℕ) (v : Tally) : Type 0 where
  pub boss : v.boss ≡ true → (seat ≡ owner) × (v.put ≡ put)
  pub mark : v.mark ≡ true → (v.boss ≡ true) × (put ≤ gone)
  pub idle : v.parts ≡ 0 → v.gone ≡ 0

abbrev pub reported : List Tally → ℕ
reported views = sum_by (λ (v : Tally). v.gone) views

-- The one word of a tally is what was put less what was reported as taken, as a number of 64 bits. Where the owner's
-- mark stands, all that was put is reported.
pub record IsTallied (s : State (Unit {0}) Tally) : Type 0 where
  pub left : ℕ
  pub put : ℕ
  pub owner : ℕ
  pub word : s.words ≡ left ∷ []
  pub difference : (left + reported s.views) % 2 ^ 64 ≡ put
  pub parts : sum_by (λ (v : Tally). v.parts) s.views ≡ 1024
  pub each : (seat : ℕ) (v : Tally) → get_elem? s.views seat ≡ some v → Fits owner put (reported s.views) seat v
