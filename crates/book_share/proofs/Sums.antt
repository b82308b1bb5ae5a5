-- Sums over the views, and what is true of each of them.
use Rattle.std.proofs.Common.{◌≡◌, ◌≢◌, ℕ, zero, suc, ◌+◌, ◌≤◌, List, [], ◌∷◌, ◌++◌, set, refl, sym, ap, ◌∙◌, subst}
use Rattle.std.proofs.Common.{inl, inr, arith}
use mathlib.Core.Option.{some, some-ne-none, some-injective}
use lib.ListN.{get_elem?}
use Rattle.atomic_table.proofs.Lists.{at_set}
use Rattle.book_share.specs.Places.{total}

module _ {A : Type 0} where
  pub at_same : (l : List A) (i : ℕ) (a b : A) → get_elem? l i ≡ some a → get_elem? l i ≡ some b → a ≡ b
  at_same l i a b e f = some-injective a b (sym e ∙ f)

  pub set_there : (l : List A) (i : ℕ) (a b : A) → get_elem? l i ≡ some a → get_elem? (set l i b) i ≡ some b
  set_there [] i a b e = absurd (some-ne-none a (sym e))
  set_there (x ∷ xs) zero a b e = refl
  set_there (x ∷ xs) (suc i) a b e = set_there xs i a b e

  pub total_set : (f : A → ℕ) (l : List A) (i : ℕ) (v w : A) → get_elem? l i ≡ some v
      → total f (set l i w) + f v ≡ total f l + f w
  total_set f [] i v w e = absurd (some-ne-none v (sym e))
  total_set f (x ∷ xs) zero v w e = let p : f x ≡ f v = ap f (some-injective x v e) in omega arith
  total_set f (x ∷ xs) (suc i) v w e = let p = total_set f xs i v w e in omega arith

  pub total_push : (f : A → ℕ) (l : List A) (v : A) → total f (l ++ v ∷ []) ≡ total f l + f v
  total_push f [] v = omega arith
  total_push f (x ∷ xs) v = omega (arith, total_push f xs v)

  pub total_at : (f : A → ℕ) (l : List A) (i : ℕ) (v : A) → get_elem? l i ≡ some v → f v ≤ total f l
  total_at f [] i v e = absurd (some-ne-none v (sym e))
  total_at f (x ∷ xs) zero v e = let p : f x ≡ f v = ap f (some-injective x v e) in omega arith
  total_at f (x ∷ xs) (suc i) v e = omega (arith, total_at f xs i v e)

  pub total_two : (f : A → ℕ) (l : List A) (i j : ℕ) (v w : A) → i ≢ j → get_elem? l i ≡ some v → get_elem? l j ≡ some w
      → f v + f w ≤ total f l
  total_two f [] i j v w ne e e' = absurd (some-ne-none v (sym e))
  total_two f (x ∷ xs) zero zero v w ne e e' = absurd (ne refl)
  total_two f (x ∷ xs) zero (suc j) v w ne e e' = let p : f x ≡ f v = ap f (some-injective x v e) in
      omega (arith, total_at f xs j w e')
  total_two f (x ∷ xs) (suc i) zero v w ne e e' = let p : f x ≡ f w = ap f (some-injective x w e') in
      omega (arith, total_at f xs i v e)
  total_two f (x ∷ xs) (suc i) (suc j) v w ne e e' = omega (arith, total_two f xs i j v w (λ s. ne (ap suc s)) e e')

  total_zero : (f : A → ℕ) (l : List A) → ((j : ℕ) (u : A) → get_elem? l j ≡ some u → f u ≡ 0) → total f l ≡ 0
  total_zero f [] h = refl
  total_zero f (x ∷ xs) h = omega (arith, h 0 x refl, total_zero f xs (λ j u e. h (suc j) u e))

  pub total_only : (f : A → ℕ) (l : List A) (i : ℕ) (v : A) → get_elem? l i ≡ some v
      → ((j : ℕ) (u : A) → j ≢ i → get_elem? l j ≡ some u → f u ≡ 0) → total f l ≡ f v
  total_only f [] i v e h = absurd (some-ne-none v (sym e))
  total_only f (x ∷ xs) zero v e h = let p : f x ≡ f v = ap f (some-injective x v e) in
      omega (arith, total_zero f xs (λ j u e'. h (suc j) u (λ z. omega arith) e'))
  total_only f (x ∷ xs) (suc i) v e h = omega (
    arith,
    h 0 x (λ z. omega arith) refl,
    total_only f xs i v e (λ j u ne e'. h (suc j) u (λ z. ne (omega arith)) e'),
  )

  -- what is true of the new item and of each other one is true of each
  pub all_set : (P : ℕ → A → Type 0) (l : List A) (i : ℕ) (w : A) → P i w
      → ((j : ℕ) (u : A) → j ≢ i → get_elem? l j ≡ some u → P j u) → (j : ℕ) (u : A) → get_elem? (set l i w) j ≡ some u
      → P j u
  all_set P l i w mine others j u e = elim (at_set l i j w u e) [
    | inl s ↦ subst (λ (p : ℕ × A). P p.0 p.1) (λ k. (sym s.0 k, s.1 k)) mine
    | inr s ↦ others j u s.0 s.1
  ]
