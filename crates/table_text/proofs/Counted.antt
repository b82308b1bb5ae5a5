-- How many pairs of numbers below n pass a test that no pair passes both ways: at most half of all pairs of two.
use Rattle.std.proofs.Common.{◌≡◌, ℕ, zero, suc, ◌+◌, ◌*◌, ◌<◌, ◌≤◌, Bool, true, false, cond, [], ◌∷◌}
use Rattle.std.proofs.Common.{length, refl, arith, length-append}
use Rattle.std.proofs.Math.Nat.{mul-le-mul_right}
use Rattle.table_text.specs.TableText.{those_below}

-- how many numbers below n pass
abbrev pub passing : (ℕ → Bool) → ℕ → ℕ
passing p n = length (those_below p n)

one : (b : Bool) (n : ℕ) → length (cond b (n ∷ []) []) ≡ cond {A = ℕ} b 1 0
one true n = refl
one false n = refl

passing-suc : (p : ℕ → Bool) (n : ℕ) → passing p (suc n) ≡ passing p n + cond {A = ℕ} (p n) 1 0
passing-suc p n = omega (arith, length-append (those_below p n) (cond (p n) (n ∷ []) []), one (p n) n)

at_most_one : (b : Bool) → cond {A = ℕ} b 1 0 ≤ 1
at_most_one true = omega arith
at_most_one false = omega arith

passing-le : (p : ℕ → Bool) (n : ℕ) → passing p n ≤ n
passing-le p zero = omega arith
passing-le p (suc n) = omega (arith, passing-suc p n, passing-le p n, at_most_one (p n))

never_both : (a b : Bool) → (a ≡ true → b ≡ true → ⊥) → cond {A = ℕ} a 1 0 + cond {A = ℕ} b 1 0 ≤ 1
never_both true true h = absurd (h refl refl)
never_both true false h = omega arith
never_both false true h = omega arith
never_both false false h = omega arith

-- of two tests that no number passes both
two_pass : (p q : ℕ → Bool) (n : ℕ) → ((k : ℕ) → p k ≡ true → q k ≡ true → ⊥) → passing p n + passing q n ≤ n
two_pass p q zero h = omega arith
two_pass p q (suc n) h =
    omega (arith, passing-suc p n, passing-suc q n, two_pass p q n h, never_both (p n) (q n) (h n))

none_passes : (b : Bool) → (b ≡ true → ⊥) → cond {A = ℕ} b 1 0 ≡ 0
none_passes true h = absurd (h refl)
none_passes false h = refl

module _ (c : ℕ → ℕ → Bool) where
  -- how many numbers below n pass with one of the first m
  abbrev pub pairs : ℕ → ℕ → ℕ
  pairs n zero = 0
  pairs n (suc m) = pairs n m + passing (c m) n

  pairs-suc : (n m : ℕ) → pairs (suc n) m ≡ pairs n m + passing (λ j. c j n) m
  pairs-suc n zero = refl
  pairs-suc n (suc m) =
      omega (arith, pairs-suc n m, passing-suc (c m) n, passing-suc (λ j. c j n) m)

  half : (n : ℕ) → ((i j : ℕ) → c j i ≡ true → c i j ≡ true → ⊥) → 2 * pairs n n + n ≤ n * n
  half zero h = omega arith
  half (suc n) h = omega (
    arith,
    half n h,
    pairs-suc n n,
    passing-suc (c n) n,
    two_pass (λ j. c j n) (c n) n (λ k. h n k),
    none_passes (c n n) (λ e. h n n e e),
  )

  -- how many pass with a greater number below m
  abbrev pub pairs_under : ℕ → ℕ
  pairs_under zero = 0
  pairs_under (suc m) = pairs_under m + passing (c m) m

  half_under : (n : ℕ) → 2 * pairs_under n + n ≤ n * n
  half_under zero = omega arith
  half_under (suc n) = omega (arith, half_under n, passing-le (c n) n)

  pub few_pairs : (n : ℕ) → n ≤ 1024 → ((i j : ℕ) → c j i ≡ true → c i j ≡ true → ⊥) → pairs n n < 524288
  few_pairs n l h = omega (arith, half n h, l, mul-le-mul_right n l)

  pub few_under : (n : ℕ) → n ≤ 1024 → pairs_under n < 524288
  few_under n l = omega (arith, half_under n, l, mul-le-mul_right n l)
