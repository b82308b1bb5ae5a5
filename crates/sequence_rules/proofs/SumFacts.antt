-- Sums over the places of a list: one place more, sums that are no less, sums of sums.
use Rattle.std.proofs.Common.{◌≡◌, ℕ, zero, suc, ◌+◌, ◌<◌, ◌≤◌, List, [], ◌∷◌, length, take, get_or, refl, ap, ◌∙◌}
use Rattle.std.proofs.Common.{add-one, arith}
use Rattle.std.specs.List.{AllZip}
use Rattle.sequence_rules.specs.States.{sum_over, value_at_each}

-- one place more
sum_suc : (f : ℕ → ℕ → ℕ) (xs : List ℕ) (k : ℕ) → k < length xs
    → sum_over f (take (suc k) xs) ≡ sum_over f (take k xs) + f k (get_or xs k 0)
sum_suc f [] k h = absurd (omega arith)
sum_suc f (x ∷ xs) zero h = omega arith
sum_suc f (x ∷ xs) (suc k) h = omega (arith, sum_suc (λ i. f (suc i)) xs k (omega (arith, h)))

pub sum_more : (f : ℕ → ℕ → ℕ) (xs : List ℕ) (k : ℕ) → k < length xs
    → sum_over f (take (k + 1) xs) ≡ sum_over f (take k xs) + f k (get_or xs k 0)
sum_more f xs k h = ap (λ n. sum_over f (take n xs)) (add-one k) ∙ sum_suc f xs k h

-- a list that has the value at each place
pub values_are : (f : ℕ → ℕ → ℕ) (xs ys : List ℕ) → length ys ≡ length xs
    → ((k : ℕ) → k < length xs → get_or ys k 0 ≡ f k (get_or xs k 0)) → ys ≡ value_at_each f xs
values_are f [] [] e h = refl
values_are f [] (y ∷ ys) e h = absurd (omega arith)
values_are f (x ∷ xs) [] e h = absurd (omega arith)
values_are f (x ∷ xs) (y ∷ ys) e h =
    let first : y ≡ f 0 x = h 0 (omega arith) in
    let rest : ys ≡ value_at_each (λ k. f (suc k)) xs = values_are (λ k. f (suc k)) xs ys (omega (arith, e))
    (λ k l. h (suc k) (omega (arith, l))) in
    cc

pub length-value_at_each : (f : ℕ → ℕ → ℕ) (xs : List ℕ) → length (value_at_each f xs) ≡ length xs
length-value_at_each f [] = refl
length-value_at_each f (x ∷ xs) = ap suc (length-value_at_each (λ k. f (suc k)) xs)

-- a sum that is no less at any place
pub sum_le : (f g : ℕ → ℕ → ℕ) (xs : List ℕ) → ((k x : ℕ) → f k x ≤ g k x) → sum_over f xs ≤ sum_over g xs
sum_le f g [] h = omega arith
sum_le f g (x ∷ xs) h = omega (arith, h 0 x, sum_le (λ k. f (suc k)) (λ k. g (suc k)) xs (λ k. h (suc k)))

-- a sum of what grows, over numbers that are no less
pub sum_grows : (f : ℕ → ℕ → ℕ) (xs ys : List ℕ) → ((k a b : ℕ) → a ≤ b → f k a ≤ f k b) → AllZip (λ a b. a ≤ b) xs ys
    → sum_over f xs ≤ sum_over f ys
sum_grows f [] [] h z = omega arith
sum_grows f [] (y ∷ ys) h z = absurd z
sum_grows f (x ∷ xs) [] h z = absurd z
sum_grows f (x ∷ xs) (y ∷ ys) h z = omega (arith, h 0 x y z.0, sum_grows (λ k. f (suc k)) xs ys (λ k. h (suc k)) z.1)

-- a sum of two functions
pub sum_plus : (f g : ℕ → ℕ → ℕ) (xs : List ℕ) → sum_over (λ k x. f k x + g k x) xs ≡ sum_over f xs + sum_over g xs
sum_plus f g [] = refl
sum_plus f g (x ∷ xs) = omega (arith, sum_plus (λ k. f (suc k)) (λ k. g (suc k)) xs)

-- a sum over the values of another function
pub sum_each : (f g : ℕ → ℕ → ℕ) (xs : List ℕ) → sum_over f (value_at_each g xs) ≡ sum_over (λ k x. f k (g k x)) xs
sum_each f g [] = refl
sum_each f g (x ∷ xs) = omega (arith, sum_each (λ k. f (suc k)) (λ k. g (suc k)) xs)

-- a sum over nothing but noughts, of a function that is 0 there
pub sum_noughts : (f : ℕ → ℕ → ℕ) (xs : List ℕ) → ((k : ℕ) → f k 0 ≡ 0) → ((k : ℕ) → get_or xs k 0 ≡ 0)
    → sum_over f xs ≡ 0
sum_noughts f [] h z = refl
sum_noughts f (x ∷ xs) h z =
    let here : f 0 x ≡ 0 = ap (λ n. f 0 n) (z 0) ∙ h 0 in
    omega (arith, here, sum_noughts (λ k. f (suc k)) xs (λ k. h (suc k)) (λ k. z (suc k)))
