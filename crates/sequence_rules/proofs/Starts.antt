-- Starts that are no later at any station.
use Rattle.std.proofs.Common.{◌≡◌, ℕ, suc, ◌<◌, ◌≤◌, List, [], ◌∷◌, length, get_or, arith}
use Rattle.std.specs.List.{AllZip}

pub zip_from : (xs ys : List ℕ) → length xs ≡ length ys → ((j : ℕ) → j < length xs → get_or xs j 0 ≤ get_or ys j 0)
    → AllZip (λ a b. a ≤ b) xs ys
zip_from [] [] e h = tt
zip_from [] (y ∷ ys) e h = absurd (omega arith)
zip_from (x ∷ xs) [] e h = absurd (omega arith)
zip_from (x ∷ xs) (y ∷ ys) e h = (
  h 0 (omega arith),
  zip_from xs ys (omega (arith, e))
      (λ j l. h (suc j) (omega (arith, l))),
)
