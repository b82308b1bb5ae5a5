-- What contracts see of a pool and of its hands. Own.
use Rattle.std.specs.Prelude.{◌≡◌, ◌⊎◌, ◌/◌, ℕ, suc, ◌+◌, ◌-◌, ◌*◌, ◌^◌, ◌<◌, ◌≤◌, Bool, true, false, List, [], ◌∷◌}
use Rattle.std.specs.Prelude.{◌++◌, length, map, filter, ◌%◌, nat_eq, slice_get, Some}
use Rattle.std.specs.declared.alloc.Global.{Global}
use Rattle.atomic_table.specs.Seated.{TableId}
use Rattle.steal_pool.specs.declared.piece.Piece.{Piece}
use Rattle.steal_pool.specs.Deques.{Log, Tally}
use Rattle.steal_pool.specs.Steps.{pushed, taken, log_left, announced, reports, found_empty, tally_left, tally_both}

-- which deque it is: the one that has the pieces, and its tally
pub record DequeId : Type 0 where
  pub pieces : (ℕ × ℕ) × Global
  pub tally : TableId

-- what a hand knows of one deque, or what its owner knows
pub record PortView : Type 0 where
  pub deque : DequeId
  pub log : Log
  pub tally : Tally

-- the owner at the start, with so many parts
abbrev pub home_with : ℕ → DequeId → PortView
home_with n d = record {
  deque = d;
  log = record { parts = n; own = []; got = [] };
  tally = record { parts = n; boss = true; put = 0; gone = 0; found = 0; mark = false };
}

-- a part goes to a hand, which knows nothing of the deque yet
abbrev pub left_home : PortView → PortView
left_home p = record { deque = p.deque; log = log_left p.log; tally = tally_left p.tally }

abbrev pub fresh_port : DequeId → PortView
fresh_port d = record {
  deque = d;
  log = record { parts = 1; own = []; got = [] };
  tally = record { parts = 1; boss = false; put = 0; gone = 0; found = 0; mark = false };
}

-- the owner put a piece
abbrev pub put_home : PortView → Piece → PortView
put_home p x = record { deque = p.deque; log = pushed p.log (x ∷ []); tally = announced p.tally }

-- a piece was taken from the deque
abbrev pub took_port : Piece → PortView → PortView
took_port x p = record { deque = p.deque; log = taken p.log (x ∷ []); tally = reports p.tally }

-- the deque was found empty
abbrev pub looked_port : PortView → PortView
looked_port p = record { deque = p.deque; log = p.log; tally = found_empty p.tally }

-- the owner has what a hand knew
abbrev pub joined : PortView → PortView → PortView
joined p q = record {
  deque = p.deque;
  log = record { parts = p.log.parts + q.log.parts; own = p.log.own; got = p.log.got ++ q.log.got };
  tally = tally_both p.tally q.tally;
}

-- A hand: its number in the pool, from 0; how many pieces were dealt to it; what it knows as an owner; and what it
-- knows of each deque of the pool, in order.
pub record HandView : Type 0 where
  pub name : ℕ
  pub count : ℕ
  pub home : PortView
  pub ports : List PortView

-- the pieces that were dealt to it or put by it, in order
abbrev pub own_of : HandView → List Piece
own_of v = v.home.log.own

-- for each deque, in order, the pieces that it took from there
abbrev pub tooks : HandView → List (List Piece)
tooks v = map (λ (p : PortView). p.log.got) v.ports

-- for each deque, in order, how often it found it empty
abbrev pub founds : HandView → List ℕ
founds v = map (λ (p : PortView). p.tally.found) v.ports

-- whether its mark stands: it found its own deque empty and has put nothing since
abbrev pub mark_of : HandView → Bool
mark_of v = v.home.tally.mark

-- its next number: its number in the pool, from 1, times 2^32, and how often it has put
abbrev pub next_number : HandView → ℕ
next_number v = (v.name + 1) * 2 ^ 32 + (length (own_of v) - v.count)

-- the numbers of the pieces rise, from `low` on and below `high`
abbrev pub Rise : ℕ → List Piece → ℕ → Type 0
Rise low [] high = low ≤ high
Rise low (x ∷ xs) high = (low ≤ x.number) × Rise (suc x.number) xs high

-- for each item its place and itself
abbrev pub each_from : {A B : Type 0} → (ℕ → A → B) → ℕ → List A → List B
each_from f i [] = []
each_from f i (x ∷ xs) = f i x ∷ each_from f (suc i) xs

-- the pieces of which the remainder is k are dealt to the hand k
abbrev pub dealt_to : ℕ → ℕ → List Piece → List Piece
dealt_to hands k pieces = filter (λ (x : Piece). nat_eq (x.number % hands) k) pieces

-- the owner of a deque to which these pieces were dealt
abbrev pub dealt_home : ℕ → DequeId → List Piece → PortView
dealt_home parts d xs = record {
  deque = d;
  log = record { parts = parts; own = xs; got = [] };
  tally = record { parts = parts; boss = true; put = length xs; gone = 0; found = 0; mark = false };
}

-- a hand of a new pool: these pieces were dealt to it, and it took none
abbrev pub new_hand : List DequeId → ℕ → DequeId → List Piece → HandView
new_hand pool k d xs = record {
  name = k;
  count = length xs;
  home = dealt_home (1024 - length pool) d xs;
  ports = map fresh_port pool;
}

-- the hands of a new pool, in order
abbrev pub new_hands : List DequeId → List Piece → List HandView
new_hands pool pieces = each_from (λ k d. new_hand pool k d (dealt_to (length pool) k pieces)) 0 pool

-- each piece has the number of its place
abbrev pub AreNumbered : List Piece → Type 0
AreNumbered pieces = (k : ℕ) (x : Piece) → slice_get pieces k ≡ Some x → x.number ≡ k

-- a port is of this deque, and has a part
abbrev pub standing : PortView → DequeId × ℕ × ℕ
standing p = (p.deque, p.log.parts, p.tally.parts)

abbrev pub at_deque : DequeId → DequeId × ℕ × ℕ
at_deque d = (d, 1, 1)

-- a number tells the hand that it was dealt to, by its remainder, or that put it, by what stands above 2^32
abbrev pub IsNumberOf : ℕ → ℕ → ℕ → Type 0
IsNumberOf hands name n = ((n < 4096) × (n % hands ≡ name)) ⊎ (n / 2 ^ 32 ≡ name + 1)

-- The hand is one of the pool's, with a port for each deque: it owns the deque of its number, has at most 4,096 pieces
-- of its own, and their numbers rise.
pub record IsHandOf (pool : List DequeId) (v : HandView) : Type 0 where
  pub ports : map standing v.ports ≡ map at_deque pool
  pub few : length pool ≤ 64
  pub below : v.name < length pool
  pub deque : slice_get pool v.name ≡ Some v.home.deque
  pub count : v.count ≤ length (own_of v)
  pub most : length (own_of v) ≤ 4096
  pub boss : v.home.tally.boss ≡ true
  pub put : v.home.tally.put ≡ length (own_of v)
  pub parts : (v.home.log.parts ≡ 1024 - length pool) × (v.home.tally.parts ≡ 1024 - length pool)
  pub none : (v.home.log.got ≡ []) × (v.home.tally.gone ≡ 0)
  pub numbers : Rise 0 (own_of v) (next_number v)
  pub tell : (i : ℕ) (x : Piece) → slice_get (own_of v) i ≡ Some x → IsNumberOf (length pool) v.name x.number

-- the hands of a pool, in order
pub record AreHandsOf (pool : List DequeId) (hands : List HandView) : Type 0 where
  pub few : length pool ≤ 64
  pub count : length hands ≡ length pool
  pub each : (k : ℕ) (v : HandView) → slice_get hands k ≡ Some v → (v.name ≡ k) × IsHandOf pool v
