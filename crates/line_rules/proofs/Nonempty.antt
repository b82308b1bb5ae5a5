-- A set that isn't empty has a bound of at least 1.
use Rattle.std.proofs.Common.{◌≡◌, ℕ, zero, suc, ◌<◌, ◌≤◌, Bool, true, false, cond, max, List, [], ◌∷◌, refl, sym, ◌⊎◌}
use Rattle.std.proofs.Common.{inl, inr, arith}
use Rattle.std.specs.Prelude.{nat_eq}
use Rattle.line_instance.specs.Truths.{In, IsEmpty, count}
use Rattle.line_instance.specs.Line.{Line}
use Rattle.line_rules.specs.Bounds.{bound}
use Rattle.line_rules.specs.declared.types.LineKind.{LineKind}
use Rattle.std.proofs.lemmas.List.Sums.{sum_by-cons}
use Rattle.std.proofs.lemmas.Bool.{cases_Bool, false≢true, eqb-true}

member_counts : (s : List Bool) (i : ℕ) → In s i → 0 < count s
member_counts [] i m = absurd (false≢true m)
member_counts (true ∷ s) i m = omega (arith, sum_by-cons (λ t. cond t 1 0) true s)
member_counts (false ∷ s) zero m = absurd (false≢true m)
member_counts (false ∷ s) (suc i) m = omega (arith, member_counts s i m, sum_by-cons (λ t. cond t 1 0) false s)

at_least_one : (a b : Bool) (x : ℕ) → a ≡ false → 1 ≤ cond a 0 (cond b 1025 (max 1 x))
at_least_one true b x e = absurd (false≢true (sym e))
at_least_one false true x e = omega arith
at_least_one false false x e = omega arith

pub bound_some : (kind : LineKind) (line : Line) (c : ℕ) (R : List Bool) (i : ℕ) → In R i → 1 ≤ bound kind line c R
unfolding bound
bound_some kind line c R i m = at_least_one _ _ _ (elim (cases_Bool (nat_eq (count R) 0))
    [ inl t ↦ absurd (omega (arith, eqb-true (count R) 0 t, member_counts R i m)) | inr f ↦ f ])

empty_more : (s : List Bool) → IsEmpty s → (i : ℕ) → In (false ∷ s) i → ⊥
empty_more s n zero m = false≢true m
empty_more s n (suc i) m = n i m

pub member_or_empty : (s : List Bool) → ((i : ℕ) × In s i) ⊎ IsEmpty s
member_or_empty [] = inr (λ i m. absurd (false≢true m))
member_or_empty (true ∷ s) = inl (0, refl)
member_or_empty (false ∷ s) = elim (member_or_empty s) [
  | inl p ↦ inl (suc p.0, p.1)
  | inr n ↦ inr (empty_more s n)
]
