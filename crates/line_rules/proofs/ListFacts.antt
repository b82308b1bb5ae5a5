-- The items of lists by their places: of what is taken from a list, and of lists put together.
use Rattle.std.proofs.Common.{◌≡◌, ℕ, zero, suc, ◌+◌, ◌<◌, List, [], ◌∷◌, ◌++◌, length, map, take, drop, refl, ap, ◌∙◌}
use Rattle.std.proofs.Common.{Some, ◌⊎◌, inl, inr, arith}
use Rattle.std.specs.Prelude.{slice_get}

pub get_take : {X : Type 0} (xs : List X) (n k : ℕ) (x : X) → slice_get (take n xs) k ≡ Some x
    → (k < n) × (slice_get xs k ≡ Some x)
get_take xs zero k x e = absurd (cc)
get_take [] (suc n) k x e = absurd (cc)
get_take (y ∷ ys) (suc n) zero x e = (omega arith, e)
get_take (y ∷ ys) (suc n) (suc k) x e = let p : (k < n) × (slice_get ys k ≡ Some x) = get_take ys n k x e in
    (omega (arith, p.0), p.1)

pub get_longer : {X : Type 0} (xs ys : List X) (k : ℕ) (x : X) → slice_get xs k ≡ Some x
    → slice_get (xs ++ ys) k ≡ Some x
get_longer [] ys k x e = absurd (cc)
get_longer (y ∷ xs) ys zero x e = e
get_longer (y ∷ xs) ys (suc k) x e = get_longer xs ys k x e

pub get_push_cases : {X : Type 0} (xs : List X) (y x : X) (k : ℕ) → slice_get (xs ++ y ∷ []) k ≡ Some x
    → ((k < length xs) × (slice_get xs k ≡ Some x)) ⊎ ((k ≡ length xs) × (y ≡ x))
get_push_cases [] y x zero e = inr (refl, cc)
get_push_cases [] y x (suc k) e = absurd (cc)
get_push_cases (z ∷ xs) y x zero e = inl (omega arith, e)
get_push_cases (z ∷ xs) y x (suc k) e = elim (get_push_cases xs y x k e)
    [ inl p ↦ inl (omega (arith, p.0), p.1) | inr q ↦ inr (omega (arith, q.0), q.1) ]

pub get_last : {X : Type 0} (xs : List X) (x : X) → slice_get (xs ++ x ∷ []) (length xs) ≡ Some x
get_last [] x = refl
get_last (y ∷ xs) x = get_last xs x

-- an empty list has no item, and a place within a list has one
pub get_none : {X : Type 0} (k : ℕ) (x : X) → slice_get [] k ≡ Some x → ⊥
get_none k x e = cc

pub get_some : {X : Type 0} (xs : List X) (k : ℕ) → k < length xs → (x : X) × (slice_get xs k ≡ Some x)
get_some [] k h = absurd (omega (arith, h))
get_some (y ∷ xs) zero h = (y, refl)
get_some (y ∷ xs) (suc k) h = get_some xs k (omega (arith, h))

-- an item among the first ones
pub get_taken : {X : Type 0} (xs : List X) (n k : ℕ) (x : X) → k < n → slice_get xs k ≡ Some x
    → slice_get (take n xs) k ≡ Some x
get_taken xs zero k x l e = absurd (omega (arith, l))
get_taken [] (suc n) k x l e = e
get_taken (y ∷ xs) (suc n) zero x l e = e
get_taken (y ∷ xs) (suc n) (suc k) x l e = get_taken xs n k x (omega (arith, l)) e

-- one item more is taken, or dropped
pub take_next : {X : Type 0} (xs : List X) (k : ℕ) (x : X) → slice_get xs k ≡ Some x
    → take (suc k) xs ≡ take k xs ++ x ∷ []
take_next [] k x e = absurd (cc)
take_next (y ∷ xs) zero x e = let q : y ≡ x = cc in ap (λ z. z ∷ []) q
take_next (y ∷ xs) (suc k) x e = ap (λ z. y ∷ z) (take_next xs k x e)

pub drop_next : {X : Type 0} (xs : List X) (k : ℕ) (x : X) → slice_get xs k ≡ Some x → drop k xs ≡ x ∷ drop (suc k) xs
drop_next [] k x e = absurd (cc)
drop_next (y ∷ xs) zero x e = let q : y ≡ x = cc in ap (λ z. z ∷ xs) q
drop_next (y ∷ xs) (suc k) x e = drop_next xs k x e

-- the items of a mapped list
pub get_map : {X Y : Type 0} (f : X → Y) (xs : List X) (k : ℕ) (x : X) → slice_get xs k ≡ Some x
    → slice_get (map f xs) k ≡ Some (f x)
get_map f [] k x e = absurd (cc)
get_map f (y ∷ xs) zero x e = (let q : y ≡ x = cc in ap (λ z. Some (f z)) q)
get_map f (y ∷ xs) (suc k) x e = get_map f xs k x e

pub get_unmap : {X Y : Type 0} (f : X → Y) (xs : List X) (k : ℕ) (y : Y) → slice_get (map f xs) k ≡ Some y
    → (x : X) × (slice_get xs k ≡ Some x) × (y ≡ f x)
get_unmap f [] k y e = absurd (cc)
get_unmap f (x ∷ xs) zero y e = (x, refl, cc)
get_unmap f (x ∷ xs) (suc k) y e = get_unmap f xs k y e

pub take_map : {X Y : Type 0} (f : X → Y) (xs : List X) (k : ℕ) → take k (map f xs) ≡ map f (take k xs)
take_map f xs zero = refl
take_map f [] (suc k) = refl
take_map f (x ∷ xs) (suc k) = ap (λ l. f x ∷ l) (take_map f xs k)

-- of two lists together: the items of the first, those of the second, and what is taken past the first
pub get_front : {X : Type 0} (xs ys : List X) (k : ℕ) → k < length xs → slice_get (xs ++ ys) k ≡ slice_get xs k
get_front [] ys k h = absurd (omega (arith, h))
get_front (x ∷ xs) ys zero h = refl
get_front (x ∷ xs) ys (suc k) h = get_front xs ys k (omega (arith, h))

pub get_behind : {X : Type 0} (xs ys : List X) (k : ℕ) → slice_get (xs ++ ys) (k + length xs) ≡ slice_get ys k
get_behind [] ys k = ap (λ n. slice_get ys n) (omega arith)
get_behind (x ∷ xs) ys k = (let s : k + suc (length xs) ≡ suc (k + length xs) = omega arith in
    ap (λ n. slice_get (x ∷ (xs ++ ys)) n) s ∙ get_behind xs ys k)

pub take_behind : {X : Type 0} (xs ys : List X) (k : ℕ) → take (k + length xs) (xs ++ ys) ≡ xs ++ take k ys
take_behind [] ys k = ap (λ n. take n ys) (omega arith)
take_behind (x ∷ xs) ys k = (let s : k + suc (length xs) ≡ suc (k + length xs) = omega arith in
    ap (λ n. take n (x ∷ (xs ++ ys))) s ∙ ap (λ l. x ∷ l) (take_behind xs ys k))
