-- Numbers below a bound that pass a test.
use Rattle.std.proofs.Common.{◌≡◌, ℕ, zero, suc, ◌<◌, Bool, true, false, ◌||◌, [], ◌∷◌}
use Rattle.std.proofs.Common.{refl, sym, ap, ◌∙◌, inl, inr, arith}
use Rattle.std.proofs.lemmas.Bool.{cases_lt, false≢true, or_cases, or_left, or_right}
use Rattle.std.proofs.lemmas.List.Folds.{list_any-append}
use Rattle.table_text.specs.TableText.{some_below, those_below}

-- one number more
some_more : (p : ℕ → Bool) (n : ℕ) → some_below p (suc n) ≡ (some_below p n || (p n || false))
some_more p n = list_any-append p (those_below (λ i. true) n) (n ∷ [])

-- some number below n passes exactly where one is given
pub some_of : (p : ℕ → Bool) (n k : ℕ) → k < n → p k ≡ true → some_below p n ≡ true
some_of p zero k l e = absurd (omega (arith, l))
some_of p (suc n) k l e = some_more p n ∙ elim (cases_lt k n) [
  | inl m ↦ or_left (some_below p n) (p n || false) (some_of p n k m e)
  | inr m ↦
      let same : k ≡ n = omega (arith, l, m) in
      or_right (some_below p n) (p n || false) (or_left (p n) false (ap p (sym same) ∙ e))
]

pub of_some : (p : ℕ → Bool) (n : ℕ) → some_below p n ≡ true → (k : ℕ) × (k < n) × (p k ≡ true)
of_some p zero e = absurd (false≢true e)
of_some p (suc n) e = elim (or_cases (some_below p n) (p n || false) (sym (some_more p n) ∙ e)) [
  | inl h ↦ (let m = of_some p n h in (m.0, omega (arith, m.1), m.2))
  | inr h ↦ elim (or_cases (p n) false h) [
    | inl g ↦ (n, omega arith, g)
    | inr g ↦ absurd (false≢true g)
  ]
]

by_truth : (b : Bool) → (b ≡ true → ⊥) → b ≡ false
by_truth true h = absurd (h refl)
by_truth false h = refl

pub none_of : (p : ℕ → Bool) (n : ℕ) → ((k : ℕ) → k < n → p k ≡ true → ⊥) → some_below p n ≡ false
none_of p n h = by_truth (some_below p n) (λ e. let m = of_some p n e in h m.0 m.1 m.2)
