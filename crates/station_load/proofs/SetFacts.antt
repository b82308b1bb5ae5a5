-- What is left of a set after two others, and what two sets have in common after one member has gone.
use Rattle.std.proofs.Common.{◌≡◌, ℕ, zero, suc, ◌&&◌, not, Bool, true, false, List, [], ◌∷◌, set, refl, ap}
use Rattle.line_instance.specs.Truths.{meet, minus, union}

and_false : (b : Bool) → (b && false) ≡ false
and_false true = refl
and_false false = refl

-- taking out two sets one after the other takes out both
pub minus_union : (s a b : List Bool) → minus (minus s a) b ≡ minus s (union a b)
minus_union [] a b = refl
minus_union (x ∷ xs) [] b = refl
minus_union (x ∷ xs) (y ∷ ys) [] = refl
minus_union (true ∷ xs) (true ∷ ys) (z ∷ zs) = ap (λ t. false ∷ t) (minus_union xs ys zs)
minus_union (true ∷ xs) (false ∷ ys) (z ∷ zs) = ap (λ t. not z ∷ t) (minus_union xs ys zs)
minus_union (false ∷ xs) (y ∷ ys) (z ∷ zs) = ap (λ t. false ∷ t) (minus_union xs ys zs)

-- a number that goes from the second set goes from what the two have in common
pub meet_clear : (a b : List Bool) (i : ℕ) → meet a (set b i false) ≡ set (meet a b) i false
meet_clear [] b i = refl
meet_clear (x ∷ xs) [] i = refl
meet_clear (x ∷ xs) (y ∷ ys) zero = ap (λ t. t ∷ meet xs ys) (and_false x)
meet_clear (x ∷ xs) (y ∷ ys) (suc i) = ap (λ t. (x && y) ∷ t) (meet_clear xs ys i)
