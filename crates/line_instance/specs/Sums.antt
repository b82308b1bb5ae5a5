-- Sums over the tasks that a test picks.
use Rattle.std.specs.Prelude.{ℕ, suc, ◌+◌, Bool, cond, List, [], ◌∷◌}

-- the sum of the weights of the times of those tasks that p picks
abbrev pub weigh : (ℕ → ℕ) → (ℕ → Bool) → List ℕ → ℕ
weigh w p [] = 0
weigh w p (t ∷ ts) = cond (p 0) (w t) 0 + weigh w (λ i. p (suc i)) ts

-- the sum of the times of those tasks that p picks
abbrev pub sum_where : (ℕ → Bool) → List ℕ → ℕ
sum_where p ts = weigh (λ t. t) p ts

-- how many tasks p picks, of those whose time passes the test
abbrev pub count_where : (ℕ → Bool) → (ℕ → Bool) → List ℕ → ℕ
count_where test p ts = weigh (λ t. cond (test t) 1 0) p ts
