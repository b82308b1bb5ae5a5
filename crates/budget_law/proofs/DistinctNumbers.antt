-- Lists of numbers of which no two are equal.
use Rattle.std.proofs.Common.{◌≡◌, ℕ, ◌<◌, ◌≤◌, true, false, List, [], ◌∷◌, ◌++◌, length, refl, sym, ◌⊎◌}
use Rattle.std.proofs.Common.{inl, inr}
use Rattle.std.specs.Prelude.{eqb}
use Rattle.std.specs.List.{IsDistinct, AllByRecursion, list_any}
use Rattle.std.proofs.lemmas.Map.Steps.{length-le_from_distinct_below}
use Rattle.std.proofs.lemmas.Bool.{ne_eqb, eqb-true, false≢true, or_cases}

-- y is one of the numbers
abbrev pub Has : List ℕ → ℕ → Type 0
Has [] y = ⊥
Has (x ∷ xs) y = (x ≡ y) ⊎ Has xs y

-- no two of the numbers are equal
abbrev pub Differ : List ℕ → Type 0
Differ [] = Unit {0}
Differ (x ∷ xs) = (Has xs x → ⊥) × Differ xs

pub has_append : (xs ys : List ℕ) (z : ℕ) → Has (xs ++ ys) z → Has xs z ⊎ Has ys z
has_append [] ys z h = inr h
has_append (x ∷ xs) ys z (inl e) = inl (inl e)
has_append (x ∷ xs) ys z (inr h) = elim (has_append xs ys z h) [ inl a ↦ inl (inr a) | inr b ↦ inr b ]

pub differ_append : (xs ys : List ℕ) → Differ xs → Differ ys → ((z : ℕ) → Has xs z → Has ys z → ⊥) → Differ (xs ++ ys)
differ_append [] ys p q r = q
differ_append (x ∷ xs) ys p q r = (
  λ h. elim (has_append xs ys x h) [ inl a ↦ p.0 a | inr b ↦ r x (inl refl) b ],
  differ_append xs ys p.1 q (λ z a b. r z (inr a) b),
)

all_differ : (x : ℕ) (xs : List ℕ) → (Has xs x → ⊥) → AllByRecursion (λ y. eqb x y ≡ false) xs
all_differ x [] h = tt
all_differ x (y ∷ xs) h = (ne_eqb x y (λ e. h (inl (sym e))), all_differ x xs (λ a. h (inr a)))

distinct_of : (xs : List ℕ) → Differ xs → IsDistinct eqb xs
unfolding IsDistinct
distinct_of [] d = tt
distinct_of (x ∷ xs) d = (all_differ x xs d.0, distinct_of xs d.1)

has_any : (q : ℕ) (xs : List ℕ) → list_any (eqb q) xs ≡ true → Has xs q
has_any q [] e = false≢true e
has_any q (x ∷ xs) e = elim (or_cases (eqb q x) (list_any (eqb q) xs) e)
    [ inl a ↦ inl (sym (eqb-true q x a)) | inr b ↦ inr (has_any q xs b) ]

-- different numbers below n are at most n
pub few_below : (xs : List ℕ) (n : ℕ) → Differ xs → ((q : ℕ) → Has xs q → q < n) → length xs ≤ n
few_below xs n d h = length-le_from_distinct_below xs n (distinct_of xs d) (λ q e. h q (has_any q xs e))
