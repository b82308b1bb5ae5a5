-- Numbers in their ranges, and states of which a unit is launched.
use Rattle.std.proofs.Common.{ℕ, zero, suc, ◌-◌, ◌*◌, ◌<◌, ◌≤◌, List, [], ◌∷◌, ◌++◌, length, get_or, sum}
use Rattle.std.proofs.Common.{arith}
use Rattle.std.specs.Prelude.{All}
use Rattle.std.proofs.lemmas.List.{get_or_default}
use Rattle.std.proofs.lemmas.List.Elements.{All-append}
use Rattle.std.proofs.lemmas.List.Sums.{sum_by-cons}
use Rattle.sequence_rules.specs.States.{less_one}
use Rattle.sequence_rules.specs.Ranges.{IsState}

-- what holds at each place holds of all
pub all_at_most : (most : ℕ) (xs : List ℕ) → ((j : ℕ) → j < length xs → get_or xs j 0 ≤ most) → All (λ x. x ≤ most) xs
all_at_most most xs h = λ k d l. omega (arith, get_or_default xs k d 0 l, h k l)

pub all_below : (limit : ℕ) (xs : List ℕ) → ((j : ℕ) → j < length xs → get_or xs j 0 < limit) → All (λ x. x < limit) xs
all_below limit xs h = λ k d l. omega (arith, get_or_default xs k d 0 l, h k l)

-- one number more
pub all_push : (most x : ℕ) (xs : List ℕ) → x ≤ most → All (λ y. y ≤ most) xs → All (λ y. y ≤ most) (xs ++ x ∷ [])
all_push most x xs l h = All-append (λ y. y ≤ most) xs (x ∷ []) h (λ k d g. one k d g)
  where
    one : (k d : ℕ) → k < length (x ∷ []) → get_or (x ∷ []) k d ≤ most
    one zero d g = l
    one (suc k) d g = absurd (omega (arith, g))

-- numbers that are at most so much have a sum of at most that for each
sum_at_most : (most : ℕ) (xs : List ℕ) → All (λ x. x ≤ most) xs → sum xs ≤ most * length xs
sum_at_most most [] h = omega arith
sum_at_most most (x ∷ xs) h = omega (
  arith,
  sum_by-cons (λ n. n) x xs,
  h 0 0 (omega arith),
  sum_at_most most xs (λ k d l. h (suc k) d (omega (arith, l))),
)

-- what is left when a unit is launched is no more
less_is_less : (rem : List ℕ) (m : ℕ) → sum (less_one rem m) ≤ sum rem
less_is_less [] m = omega arith
less_is_less (x ∷ rem) zero = omega (arith, sum_by-cons (λ n. n) x rem, sum_by-cons (λ n. n) (x - 1) rem)
less_is_less (x ∷ rem) (suc m) = omega (
  arith,
  less_is_less rem m,
  sum_by-cons (λ n. n) x rem,
  sum_by-cons (λ n. n) x (less_one rem m),
)

-- what is left of a state when a unit is launched is at most 16,000 units
pub few_left : (models stations m : ℕ) (rem starts : List ℕ) → models ≤ 16 → IsState models stations rem starts
    → sum (less_one rem m) ≤ 16000
few_left models stations m rem starts few s =
    omega (arith, less_is_less rem m, sum_at_most 1000 rem s.units, s.each, few)
