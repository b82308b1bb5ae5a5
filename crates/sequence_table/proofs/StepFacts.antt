-- Starts that are no later, and where a step leads from them.
use Rattle.std.proofs.Common.{ℕ, suc, ◌≤◌, List, [], ◌∷◌, arith}
use Rattle.std.specs.List.{AllZip}
use Rattle.sequence_values.specs.declared.types.Times.{Times}
use Rattle.sequence_rules.specs.States.{unit_work, value_at_each, next_starts, next_start}

-- the same starts are no later
pub no_later_same : (xs : List ℕ) → AllZip (λ a b. a ≤ b) xs xs
no_later_same [] = tt
no_later_same (x ∷ xs) = (omega arith, no_later_same xs)

-- no later than what is no later
pub no_later_both : (xs ys zs : List ℕ) → AllZip (λ a b. a ≤ b) xs ys → AllZip (λ a b. a ≤ b) ys zs
    → AllZip (λ a b. a ≤ b) xs zs
no_later_both [] [] zs h k = k
no_later_both [] (y ∷ ys) zs h k = absurd h
no_later_both (x ∷ xs) [] zs h k = absurd h
no_later_both (x ∷ xs) (y ∷ ys) [] h k = absurd k
no_later_both (x ∷ xs) (y ∷ ys) (z ∷ zs) h k =
    (omega (arith, h.0, k.0), no_later_both xs ys zs h.1 k.1)

-- a function that grows, at each place
each_grows : (f : ℕ → ℕ → ℕ) (xs ys : List ℕ) → ((k a b : ℕ) → a ≤ b → f k a ≤ f k b) → AllZip (λ a b. a ≤ b) xs ys
    → AllZip (λ a b. a ≤ b) (value_at_each f xs) (value_at_each f ys)
each_grows f [] [] g h = tt
each_grows f [] (y ∷ ys) g h = absurd h
each_grows f (x ∷ xs) [] g h = absurd h
each_grows f (x ∷ xs) (y ∷ ys) g h =
    (g 0 x y h.0, each_grows (λ k. f (suc k)) xs ys (λ k. g (suc k)) h.1)

-- a step leads from later starts to later ones
pub next_later : (t : Times) (interval reach model : ℕ) (xs ys : List ℕ) → AllZip (λ a b. a ≤ b) xs ys
    → AllZip (λ a b. a ≤ b) (next_starts t interval reach model xs) (next_starts t interval reach model ys)
next_later t interval reach model xs ys h =
    each_grows (λ k s. next_start s (unit_work t model k) reach interval) xs ys
    (λ k a b l. omega (arith, l)) h
