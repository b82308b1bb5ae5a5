-- Sums over the views of a rule, of which one changes.
use Rattle.std.proofs.Common.{◌≡◌, ◌≢◌, ℕ, zero, suc, ◌+◌, ◌≤◌, List, [], ◌∷◌, ◌++◌, set, refl, sym, ap, subst, inl}
use Rattle.std.proofs.Common.{inr, arith}
use Rattle.std.specs.Prelude.{sum_by}
use mathlib.Core.Option.{some, some-ne-none, some-injective}
use lib.ListN.{get_elem?}
use Rattle.atomic_table.proofs.Lists.{at_set, at_snoc}
use Rattle.std.proofs.lemmas.List.Sums.{sum_by-append, sum_by-cons}

module _ {A : Type 0} where
  pub sum_set : (f : A → ℕ) (l : List A) (i : ℕ) (v w : A) → get_elem? l i ≡ some v
      → sum_by f (set l i w) + f v ≡ sum_by f l + f w
  sum_set f [] i v w e = absurd (some-ne-none v (sym e))
  sum_set f (x ∷ xs) zero v w e = let p : f x ≡ f v = ap f (some-injective x v e) in
      omega (arith, sum_by-cons f x xs, sum_by-cons f w xs)
  sum_set f (x ∷ xs) (suc i) v w e = omega (
    arith,
    sum_by-cons f x xs,
    sum_by-cons f x (set xs i w),
    sum_set f xs i v w e,
  )

  -- a view joins the others
  pub sum_last : (f : A → ℕ) (l : List A) (v : A) → sum_by f (l ++ v ∷ []) ≡ sum_by f l + f v
  sum_last f l v = omega (arith, sum_by-append f l (v ∷ []), sum_by-cons f v [])

  sum_none : (f : A → ℕ) (l : List A) → ((j : ℕ) (u : A) → get_elem? l j ≡ some u → f u ≡ 0) → sum_by f l ≡ 0
  sum_none f [] h = refl
  sum_none f (x ∷ xs) h = omega (arith, h 0 x refl, sum_by-cons f x xs, sum_none f xs (λ j u e. h (suc j) u e))

  -- where all of the sum of f is one view's, any g that is 0 where f is has all of its sum there
  pub sum_whole : (f g : A → ℕ) (l : List A) (i : ℕ) (v : A) → get_elem? l i ≡ some v → sum_by f l ≡ f v
      → ((j : ℕ) (u : A) → get_elem? l j ≡ some u → f u ≡ 0 → g u ≡ 0) → sum_by g l ≡ g v
  sum_whole f g [] i v e w h = absurd (some-ne-none v (sym e))
  sum_whole f g (x ∷ xs) zero v e w h =
      let p : f x ≡ f v = ap f (some-injective x v e) in
      let q : g x ≡ g v = ap g (some-injective x v e) in
      let r : sum_by f xs ≡ 0 = omega (arith, sum_by-cons f x xs) in
      omega (arith, sum_by-cons g x xs, sum_none g xs (λ j u a. h (suc j) u a (below f xs j u a r)))
    where
      below : (f : A → ℕ) (ys : List A) (j : ℕ) (u : A) → get_elem? ys j ≡ some u → sum_by f ys ≡ 0 → f u ≡ 0
      below f [] j u a r = absurd (some-ne-none u (sym a))
      below f (y ∷ ys) zero u a r = let p : f y ≡ f u = ap f (some-injective y u a) in omega (arith, sum_by-cons f y ys)
      below f (y ∷ ys) (suc j) u a r = below f ys j u a (omega (arith, sum_by-cons f y ys))
  sum_whole f g (x ∷ xs) (suc i) v e w h =
      let low = sum_at f xs i v e in
      let z : f x ≡ 0 = omega (arith, sum_by-cons f x xs) in
      omega (
        arith,
        sum_by-cons g x xs,
        h 0 x refl z,
        sum_whole f g xs i v e (omega (arith, sum_by-cons f x xs))
            (λ j u a. h (suc j) u a),
      )
    where
      sum_at : (f : A → ℕ) (ys : List A) (i : ℕ) (v : A) → get_elem? ys i ≡ some v → f v ≤ sum_by f ys
      sum_at f [] i v e = absurd (some-ne-none v (sym e))
      sum_at f (y ∷ ys) zero v e = let p : f y ≡ f v = ap f (some-injective y v e) in omega (arith, sum_by-cons f y ys)
      sum_at f (y ∷ ys) (suc i) v e = omega (arith, sum_by-cons f y ys, sum_at f ys i v e)

  -- what is true of the changed view and of each other one is true of each
  pub each_set : (P : ℕ → A → Type 0) (l : List A) (i : ℕ) (w : A) → P i w
      → ((j : ℕ) (u : A) → j ≢ i → get_elem? l j ≡ some u → P j u) → (j : ℕ) (u : A) → get_elem? (set l i w) j ≡ some u
      → P j u
  each_set P l i w mine others j u e = elim (at_set l i j w u e) [
    | inl s ↦ subst (λ (p : ℕ × A). P p.0 p.1) (λ k. (sym s.0 k, s.1 k)) mine
    | inr s ↦ others j u s.0 s.1
  ]

  -- the same where a view joins the others, at its end
  pub each_last : (P : ℕ → A → Type 0) (l : List A) (w : A) → ((j : ℕ) → P j w)
      → ((j : ℕ) (u : A) → get_elem? l j ≡ some u → P j u) → (j : ℕ) (u : A) → get_elem? (l ++ w ∷ []) j ≡ some u
      → P j u
  each_last P l w new old j u e = elim (at_snoc l w u j e) [
    | inl o ↦ old j u o
    | inr n ↦ subst (P j) n (new j)
  ]

  -- the only view
  pub each_one : (P : ℕ → A → Type 0) (w : A) → P 0 w → (j : ℕ) (u : A) → get_elem? (w ∷ []) j ≡ some u → P j u
  each_one P w mine zero u e = subst (P 0) (some-injective w u e) mine
  each_one P w mine (suc j) u e = absurd (some-ne-none u (sym e))
