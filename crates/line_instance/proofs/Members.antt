-- Facts on sets as lists of truths, for the crates above.
use Rattle.std.proofs.Common.{◌≡◌, ◌≢◌, ℕ, zero, suc, ◌+◌, ◌<◌, ◌≤◌, Bool, true, false, cond, ◌&&◌, not, List, []}
use Rattle.std.proofs.Common.{◌∷◌, length, get_or, set, replicate, refl, sym, ap, ◌∙◌, ◌⊎◌, inl, inr, arith}
use Rattle.line_instance.specs.Truths.{In, union, minus, meet, full_to}
use Rattle.line_instance.proofs.Fills.{length-full_to, get_or-full_to}
use Rattle.line_instance.proofs.Bits.{get_or-union, get_or-minus, get_or-meet}
use Rattle.std.proofs.lemmas.List.{get_or-set_same, get_or-set_other, get_or_past}
use Rattle.std.proofs.lemmas.Bool.{cases_eq, cases_lt, or_cases, and_parts, and_from, false≢true, not-true, lt-ltb}
use Rattle.std.proofs.lemmas.Bool.{ltb-true, not_from_false, or_right, or_left}

pub In-union_left : (a b : List Bool) (i : ℕ) → In a i → In (union a b) i
In-union_left a b i m = get_or-union a b i ∙ or_left (get_or a i false) (get_or b i false) m

pub In-union_right : (a b : List Bool) (i : ℕ) → In b i → In (union a b) i
In-union_right a b i m = get_or-union a b i ∙ or_right (get_or a i false) (get_or b i false) m

pub In-union_cases : (a b : List Bool) (i : ℕ) → In (union a b) i → In a i ⊎ In b i
In-union_cases a b i m = or_cases (get_or a i false) (get_or b i false) (sym (get_or-union a b i) ∙ m)

pub In-minus : (a b : List Bool) (i : ℕ) → In a i → get_or b i false ≡ false → In (minus a b) i
In-minus a b i m n = get_or-minus a b i ∙ and_from (get_or a i false) (not (get_or b i false)) m
    (not_from_false (get_or b i false) n)

pub In-minus_parts : (a b : List Bool) (i : ℕ) → In (minus a b) i → In a i × (get_or b i false ≡ false)
In-minus_parts a b i m =
    let p : (get_or a i false ≡ true) × (not (get_or b i false) ≡ true) =
    and_parts (get_or a i false) (not (get_or b i false)) (sym (get_or-minus a b i) ∙ m) in
    (p.0, not-true (get_or b i false) p.1)

pub In-set_same : (a : List Bool) (i : ℕ) → i < length a → In (set a i true) i
In-set_same a i l = get_or-set_same a i true false l

pub In-set_kept : (a : List Bool) (i j : ℕ) → In a j → In (set a i true) j
In-set_kept a i j m = elim (cases_eq j i) [
  | inl e ↦ elim (cases_lt i (length a)) [
    | inl l ↦ ap (λ k. get_or (set a i true) k false) e ∙ In-set_same a i l
    | inr g ↦ absurd (false≢true (sym (get_or_past a j false (omega arith)) ∙ m))
  ]
  | inr n ↦ get_or-set_other a i j true false n ∙ m
]

pub In-set_cases : (a : List Bool) (i j : ℕ) → In (set a i true) j → In a j ⊎ (j ≡ i)
In-set_cases a i j m = elim (cases_eq j i) [
  | inl e ↦ inr e
  | inr n ↦ inl (sym (get_or-set_other a i j true false n) ∙ m)
]

-- a member of a set is below the number of its truths
pub In-below : (s : List Bool) (i : ℕ) → In s i → i < length s
In-below s i m = elim (cases_lt i (length s)) [
  | inl l ↦ l
  | inr g ↦ absurd (false≢true (sym (get_or_past s i false g) ∙ m))
]

pub In-empty : (n i : ℕ) → In (replicate n false) i → ⊥
In-empty zero i m = false≢true m
In-empty (suc n) zero m = false≢true m
In-empty (suc n) (suc i) m = In-empty n i m

-- a set without i
pub In-clear_gone : (a : List Bool) (i : ℕ) → In (set a i false) i → ⊥
In-clear_gone [] i m = false≢true m
In-clear_gone (b ∷ bs) zero m = false≢true m
In-clear_gone (b ∷ bs) (suc i) m = In-clear_gone bs i m

pub In-clear_kept : (a : List Bool) (i j : ℕ) → In (set a i false) j → In a j
In-clear_kept [] i j m = m
In-clear_kept (b ∷ bs) zero zero m = absurd (false≢true m)
In-clear_kept (b ∷ bs) zero (suc j) m = m
In-clear_kept (b ∷ bs) (suc i) zero m = m
In-clear_kept (b ∷ bs) (suc i) (suc j) m = In-clear_kept bs i j m

pub In-clear : (a : List Bool) (i j : ℕ) → In a j → j ≢ i → In (set a i false) j
In-clear a i j m n = get_or-set_other a i j false false n ∙ m

-- the numbers below n
pub In-full_to : (n i : ℕ) → n ≤ 1024 → i < n → In (full_to n) i
In-full_to n i h l = get_or-full_to n i (omega arith) ∙ lt-ltb i n l

pub In-full_to_below : (n i : ℕ) → In (full_to n) i → i < n
In-full_to_below n i m =
    let l : i < 1024 = omega (arith, In-below (full_to n) i m, length-full_to n) in
    ltb-true i n (sym (get_or-full_to n i l) ∙ m)

-- the members of s that p picks
pub keep : (ℕ → Bool) → List Bool → List Bool
keep p [] = []
keep p (x ∷ xs) = (x && p 0) ∷ keep (λ i. p (suc i)) xs

pub length-keep : (p : ℕ → Bool) (s : List Bool) → length (keep p s) ≡ length s
unfolding keep
length-keep p [] = refl
length-keep p (x ∷ xs) = ap suc (length-keep (λ i. p (suc i)) xs)

pub get_or-keep : (p : ℕ → Bool) (s : List Bool) (i : ℕ) → get_or (keep p s) i false ≡ (get_or s i false && p i)
unfolding keep
get_or-keep p [] i = refl
get_or-keep p (x ∷ xs) zero = refl
get_or-keep p (x ∷ xs) (suc i) = get_or-keep (λ i. p (suc i)) xs i

pub In-keep : (p : ℕ → Bool) (s : List Bool) (i : ℕ) → In s i → p i ≡ true → In (keep p s) i
In-keep p s i m e = get_or-keep p s i ∙ and_from (get_or s i false) (p i) m e

pub In-keep_parts : (p : ℕ → Bool) (s : List Bool) (i : ℕ) → In (keep p s) i → In s i × (p i ≡ true)
In-keep_parts p s i m = and_parts (get_or s i false) (p i) (sym (get_or-keep p s i) ∙ m)

-- how many are in s, and how many a further one makes
unfoldable pub members : List Bool → ℕ
members [] = 0
members (b ∷ bs) = cond b 1 0 + members bs

pub members-set : (s : List Bool) (i : ℕ) → i < length s → get_or s i false ≡ false
    → members (set s i true) ≡ suc (members s)
unfolding members
members-set [] i l n = omega arith
members-set (true ∷ bs) zero l n = absurd (false≢true (sym n))
members-set (false ∷ bs) zero l n = omega arith
members-set (b ∷ bs) (suc i) l n = omega (arith, members-set bs i (omega arith) n)

pub members-le : (s : List Bool) → members s ≤ length s
unfolding members
members-le [] = omega arith
members-le (true ∷ bs) = omega (arith, members-le bs)
members-le (false ∷ bs) = omega (arith, members-le bs)

pub In-meet : (a b : List Bool) (i : ℕ) → In a i → In b i → In (meet a b) i
In-meet a b i m n = get_or-meet a b i ∙ and_from (get_or a i false) (get_or b i false) m n

pub In-meet_parts : (a b : List Bool) (i : ℕ) → In (meet a b) i → In a i × In b i
In-meet_parts a b i m = and_parts (get_or a i false) (get_or b i false) (sym (get_or-meet a b i) ∙ m)
