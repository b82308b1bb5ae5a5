-- What closing a pool counts, and its parts. Own.
use Rattle.std.specs.Prelude.{◌≡◌, ℕ, zero, suc, ◌+◌, ◌-◌, ◌*◌, ◌<◌, ◌≤◌, true, cond, nat_eq, List, [], ◌∷◌, length}
use Rattle.std.specs.Prelude.{map, take, sum_by, slice_get, Some}
use Rattle.steal_pool.specs.declared.piece.Piece.{Piece}
use Rattle.steal_pool.specs.declared.closing.Closed.{Closed}
use Rattle.steal_pool.specs.Hands.{DequeId, PortView, HandView, own_of, mark_of, joined, IsNumberOf}
use Rattle.steal_pool.specs.Steps.{IsWhole}

-- the pieces that a hand took from the deque k
abbrev pub got_at : ℕ → List PortView → List Piece
got_at k [] = []
got_at zero (p ∷ ps) = p.log.got
got_at (suc k) (p ∷ ps) = got_at k ps

abbrev pub took_at : ℕ → HandView → List Piece
took_at k v = got_at k v.ports

-- how often a number stands among the numbers of the pieces
abbrev pub times : ℕ → List Piece → ℕ
times n xs = sum_by (λ (x : Piece). cond (nat_eq x.number n) 1 0) xs

-- the mark of each hand stands: its last call was a take that answered Empty, or it found its own deque empty on the
-- way to another and has put nothing since
abbrev pub AreMarked : List HandView → Type 0
AreMarked hands = (k : ℕ) (v : HandView) → slice_get hands k ≡ Some v → mark_of v ≡ true

-- What a closed pool counted: for each deque there are pieces that are left, `lefts`.
pub record IsClosed (hands : List HandView) (r : Closed) : Type 0 where
  pub lefts : List (List Piece)
  pub count : length lefts ≡ length hands
  -- What was dealt to the owner of the deque k and put by it is what the hands took from there and what is left there,
  -- however the pieces are weighed: so each stands exactly once among them.
  pub each : (k : ℕ) (v : HandView) (left : List Piece) → slice_get hands k ≡ Some v → slice_get lefts k ≡ Some left
      → (h : Piece → ℕ) → sum_by h (own_of v) ≡ sum_by (λ (w : HandView). sum_by h (took_at k w)) hands + sum_by h left
  -- no number is twice among those dealt to an owner and put by it, and none was taken from its deque twice
  pub taken_once : (k n : ℕ) → k < length hands → sum_by (λ (w : HandView). times n (took_at k w)) hands ≤ 1
  pub once : (k : ℕ) (v : HandView) → slice_get hands k ≡ Some v → (n : ℕ) → times n (own_of v) ≤ 1
  -- each number tells its deque, so no number is on two deques
  pub tell : (k : ℕ) (v : HandView) (i : ℕ) (x : Piece) → slice_get hands k ≡ Some v → slice_get (own_of v) i ≡ Some x
      → IsNumberOf (length hands) k x.number
  pub put : r.put ≡ sum_by (λ (v : HandView). length (own_of v)) hands
  pub left : r.left ≡ sum_by (λ (xs : List Piece). length xs) lefts
  pub total : r.put ≡ r.taken + r.left
  -- where each hand's mark stands, nothing is left
  pub none : AreMarked hands → r.left ≡ 0

-- an owner has what a hand knew of its deque; the same for each owner
abbrev pub joined_one : PortView → HandView → HandView
joined_one p v = record v { home = joined v.home p }

abbrev pub joined_hands : List HandView → List PortView → List HandView
joined_hands [] ps = []
joined_hands (v ∷ vs) [] = v ∷ vs
joined_hands (v ∷ vs) (p ∷ ps) = joined_one p v ∷ joined_hands vs ps

-- a port's seat reported each piece that its pass took
abbrev pub HasReported : PortView → Type 0
HasReported p = p.tally.gone ≡ length p.log.got

abbrev pub HaveReported : List PortView → Type 0
HaveReported ps = (k : ℕ) (p : PortView) → slice_get ps k ≡ Some p → HasReported p

-- the owner u, who was v, has what the first j hands knew of its deque, the k-th
pub record IsGathered (hands : List HandView) (j k : ℕ) (v u : HandView) : Type 0 where
  pub own : own_of u ≡ own_of v
  pub put : u.home.tally.put ≡ v.home.tally.put
  pub mark : mark_of u ≡ mark_of v
  pub log_parts : u.home.log.parts ≡ 1024 - length hands + j
  pub tally_parts : u.home.tally.parts ≡ 1024 - length hands + j
  pub got : (h : Piece → ℕ)
      → sum_by h u.home.log.got ≡ sum_by (λ (w : HandView). sum_by h (took_at k w)) (take j hands)
  pub gone : u.home.tally.gone ≡ sum_by (λ (w : HandView). length (took_at k w)) (take j hands)

-- the same for each owner; the hands from j on have their ports
pub record AreGathered (pool : List DequeId) (hands : List HandView) (j : ℕ) (now : List HandView) : Type 0 where
  pub count : length now ≡ length hands
  pub deques : map (λ (v : HandView). v.home.deque) now ≡ pool
  pub ports : (i : ℕ) (v u : HandView) → j ≤ i → slice_get hands i ≡ Some v → slice_get now i ≡ Some u
      → u.ports ≡ v.ports
  pub each : (k : ℕ) (v u : HandView) → slice_get hands k ≡ Some v → slice_get now k ≡ Some u
      → IsGathered hands j k v u

-- what is left on an owner's deque, and what its mark says
pub record IsLeft (v : HandView) (left : List Piece) : Type 0 where
  pub whole : IsWhole v.home.log left
  pub mark : mark_of v ≡ true → v.home.tally.put ≤ v.home.tally.gone

-- owners who have all parts, and few pieces each
pub record AreWhole (pool : List DequeId) (hands : List HandView) : Type 0 where
  pub few : length pool ≤ 64
  pub deques : map (λ (v : HandView). v.home.deque) hands ≡ pool
  pub parts : (k : ℕ) (v : HandView) → slice_get hands k ≡ Some v
      → (v.home.log.parts ≡ 1024) × (v.home.tally.parts ≡ 1024) × (length (own_of v) ≤ 4096)

-- of the first k owners: how many pieces were put, and how many are left
pub record AreCounted (hands : List HandView) (k put left : ℕ) : Type 0 where
  pub lefts : List (List Piece)
  pub count : length lefts ≡ k
  pub put_is : put ≡ sum_by (λ (v : HandView). length (own_of v)) (take k hands)
  pub left_is : left ≡ sum_by (λ (xs : List Piece). length xs) lefts
  pub less : left ≤ put
  pub few : put ≤ 4096 * k
  pub each : (i : ℕ) (v : HandView) (xs : List Piece) → slice_get hands i ≡ Some v → slice_get lefts i ≡ Some xs
      → IsLeft v xs
