-- The demand of all models together.
use Rattle.std.proofs.Common.{◌≤◌, ◌*◌, ℕ, zero, suc, List, [], ◌∷◌, length, arith}
use Rattle.std.specs.Prelude.{All}
use Rattle.std.proofs.lemmas.List.Sums.{sum_by-cons}
use Rattle.combined_graph.specs.Mixes.{LineModel, IsModel}
use Rattle.combined_graph.specs.Combined.{total_demand}

-- each model has a demand of at most 10,000
pub demand_below : (tasks : ℕ) (models : List LineModel) → All (IsModel tasks) models
    → total_demand models ≤ 10000 * length models
demand_below tasks [] h = omega arith
demand_below tasks (m ∷ ms) h =
    let one : IsModel tasks m = h zero m (omega arith) in
    let rest = demand_below tasks ms (λ k d less. h (suc k) d (omega (arith, less))) in
    omega (arith, sum_by-cons (λ (m : LineModel). m.demand) m ms, one.demand, rest)
