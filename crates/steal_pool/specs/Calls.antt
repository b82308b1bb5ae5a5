-- What `put` and `take` do to what a hand knows. Own.
use Rattle.std.specs.Prelude.{◌≡◌, ℕ, zero, suc, ◌<◌, ◌⊎◌, Bool, true, List, [], ◌∷◌, ◌++◌, length, map}
use Rattle.steal_pool.specs.declared.piece.Piece.{Piece}
use Rattle.steal_pool.specs.declared.pool.PutBack.{PutBack}
use Rattle.steal_pool.specs.declared.pool.PutBack.TheVariants as put_back
use Rattle.steal_pool.specs.declared.pool.Took.{Took}
use Rattle.steal_pool.specs.declared.pool.Took.TheVariants as took
use Rattle.steal_pool.specs.Hands.{HandView, own_of, tooks, founds, mark_of, next_number, put_home, took_port}
use Rattle.steal_pool.specs.Hands.{looked_port}

-- the list with one of its items changed
abbrev pub change : {A : Type 0} → (A → A) → ℕ → List A → List A
change f k [] = []
change f zero (x ∷ xs) = f x ∷ xs
change f (suc k) (x ∷ xs) = x ∷ change f k xs

-- the list with the first k of its items changed
abbrev pub change_below : {A : Type 0} → (A → A) → ℕ → List A → List A
change_below f zero xs = xs
change_below f (suc k) [] = []
change_below f (suc k) (x ∷ xs) = f x ∷ change_below f k xs

-- Done: the piece joins the hand's own list, with its next number. Room comes exactly where there are 4,096.
abbrev pub Puts : HandView → ℕ → ℕ → List Bool → PutBack → HandView → Type 0
Puts v depth most set (put_back.Done n) w =
    (length (own_of v) < 4096) × (n ≡ next_number v)
    × (w ≡ record v { home = put_home v.home (record { number = n; depth = depth; most = most; set = set }) })
Puts v depth most set put_back.Room w = (length (own_of v) ≡ 4096) × (w ≡ v)

-- the piece joins the list of those taken from the deque k
abbrev pub took_from : ℕ → Piece → HandView → HandView
took_from k x v = record v { ports = change (took_port x) k v.ports }

-- the deque k was found empty
abbrev pub found_at : ℕ → HandView → HandView
found_at k v = record v { ports = change looked_port k v.ports }

-- the hand found its own deque empty, which sets its mark, and then the first k deques, each at a step of its own
abbrev pub looked_before : ℕ → HandView → HandView
looked_before k v = record v { home = looked_port v.home; ports = change_below looked_port k v.ports }

-- the hand found its own deque and each deque empty, each at a step of its own
abbrev pub found_all : HandView → HandView
found_all v = record v { home = looked_port v.home; ports = map looked_port v.ports }

-- Got: the piece was taken from the hand's own deque; or that one was found empty, and the piece was taken from the
-- first deque in order that wasn't. Empty: all were found empty. Nothing else changes.
abbrev pub Takes : HandView → Took → HandView → Type 0
Takes v (took.Got x) w =
    (w ≡ took_from v.name x v) ⊎ ((k : ℕ) × (k < length v.ports) × (w ≡ took_from k x (looked_before k v)))
Takes v took.Empty w = w ≡ found_all v

-- What a hand's lists are after Got: the piece joined the list of those that the hand took from one deque. No other
-- list changed.
pub record GetsOne (x : Piece) (v w : HandView) : Type 0 where
  pub deque : ℕ
  pub there : deque < length v.ports
  pub lists : tooks w ≡ change (λ (l : List Piece). l ++ x ∷ []) deque (tooks v)
  pub own : own_of w ≡ own_of v

-- What a hand knows after Empty: of each deque the count rose, so it found each empty at a step of its own in this
-- call. No list changed, and its mark stands.
pub record FindsNone (v w : HandView) : Type 0 where
  pub counts : founds w ≡ map suc (founds v)
  pub lists : tooks w ≡ tooks v
  pub own : own_of w ≡ own_of v
  pub mark : mark_of w ≡ true

abbrev pub Lists : HandView → Took → HandView → Type 0
Lists v (took.Got x) w = GetsOne x v w
Lists v took.Empty w = FindsNone v w
