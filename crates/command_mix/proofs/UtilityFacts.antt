-- The utility work of each station, as a list.
use Rattle.std.proofs.Common.{◌≡◌, ◌<◌, ◌+◌, ℕ, zero, suc, List, [], ◌∷◌, length, get_or, refl, ◌∙◌, ap, arith}
use Rattle.line_rules.specs.declared.types.Seatplace.{Seatplace}
use Rattle.combined_graph.specs.Mixes.{MixedLine}
use Rattle.utility_work.specs.Utility.{station_utility}
use Rattle.command_mix.specs.Utility.{utilities}

pub utilities_are : (mix : MixedLine) (places : List Seatplace) (units : List ℕ) (interval reach k n : ℕ) (per : List ℕ)
    → length per ≡ n
    → ((j : ℕ) → j < n → get_or per j 0 ≡ station_utility mix places units interval reach (j + k))
    → per ≡ utilities mix places units interval reach k n
utilities_are mix places units interval reach k zero [] e h = refl
utilities_are mix places units interval reach k zero (u ∷ per) e h = absurd (omega (arith, e))
utilities_are mix places units interval reach k (suc n) [] e h = absurd (omega (arith, e))
utilities_are mix places units interval reach k (suc n) (u ∷ per) e h =
    let at : ℕ → ℕ = λ s. station_utility mix places units interval reach s in
    let first : u ≡ at k = h 0 (omega arith) ∙ ap at (omega arith) in
    let rest : per ≡ utilities mix places units interval reach (suc k) n =
    utilities_are mix places units interval reach (suc k) n per (omega (arith, e))
    (λ j less. h (suc j) (omega (arith, less)) ∙ ap at (omega arith)) in
    ap (λ (x : ℕ). x ∷ per) first ∙ ap (λ (xs : List ℕ). at k ∷ xs) rest
