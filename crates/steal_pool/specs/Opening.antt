-- What opening a pool gives, and its parts. Own.
use Rattle.std.specs.Prelude.{◌≡◌, ℕ, suc, ◌-◌, ◌<◌, List, [], length, map, nat_lt, cond, true, slice_get, Some}
use Rattle.steal_pool.specs.declared.piece.Piece.{Piece}
use Rattle.steal_pool.specs.declared.opening.Opened.{Opened}
use Rattle.steal_pool.specs.declared.opening.Opened.TheVariants as opened
use Rattle.steal_pool.specs.Hands.{DequeId, PortView, HandView, own_of, home_with, left_home, fresh_port, put_home}
use Rattle.steal_pool.specs.Hands.{each_from, new_hands, AreHandsOf}

-- a pool with so many deques, and its hands: each was dealt its pieces, and took none
abbrev pub Opens : List Piece → ℕ → Opened → Type 0
Opens pieces count (opened.Good pool hands) =
    (length pool ≡ count) × (hands ≡ new_hands pool pieces) × AreHandsOf pool hands
Opens pieces count opened.NoMemory = Unit {0}

-- a hand with so many parts and these ports, and no piece
abbrev pub seated : ℕ → List PortView → ℕ → DequeId → HandView
seated parts ports k d = record { name = k; count = 0; home = home_with parts d; ports = ports }

abbrev pub bare_hands : List DequeId → List HandView
bare_hands pool = each_from (seated 1024 []) 0 pool

-- the hands of which the first j have their ports
abbrev pub seated_below : ℕ → List DequeId → List HandView
seated_below j pool = each_from (λ k d. seated (1024 - j) (cond (nat_lt k j) (map fresh_port pool) []) k d) 0 pool

abbrev pub seated_hands : List DequeId → List HandView
seated_hands pool = each_from (seated (1024 - length pool) (map fresh_port pool)) 0 pool

-- each owner is at its deque, with parts to give
pub record CanLeave (pool : List DequeId) (hands : List HandView) : Type 0 where
  pub deques : map (λ (v : HandView). v.home.deque) hands ≡ pool
  pub parts : (k : ℕ) (v : HandView) → slice_get hands k ≡ Some v → (1 < v.home.log.parts) × (1 < v.home.tally.parts)

-- an owner gave a part away
abbrev pub left_hand : HandView → HandView
left_hand v = record v { home = left_home v.home }

-- a piece may be dealt to the owner of the deque
pub record CanDeal (deque : DequeId) (v : HandView) : Type 0 where
  pub deque_is : v.home.deque ≡ deque
  pub boss : v.home.tally.boss ≡ true
  pub put : v.home.tally.put ≡ length (own_of v)
  pub parts : (0 < v.home.log.parts) × (0 < v.home.tally.parts)
  pub room : length (own_of v) < 4096
  pub count : v.count ≡ length (own_of v)

abbrev pub dealt_one : Piece → HandView → HandView
dealt_one x v = record v { count = suc v.count; home = put_home v.home x }
