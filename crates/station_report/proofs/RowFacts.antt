-- The rows of units are those of the work of each model, however it is told.
use Rattle.std.proofs.Common.{◌≡◌, ◌<◌, ◌++◌, ℕ, zero, suc, List, [], ◌∷◌, length, refl, ◌∙◌, ap, arith}
use Rattle.std.specs.Prelude.{All}
use Rattle.combined_graph.specs.Mixes.{LineModel, model_at}
use Rattle.utility_work.specs.Utility.{utility_of, next_start}
use Rattle.station_report.specs.TimelineText.{timeline_row, unit_rows}

-- two ways to tell the work of each model that agree on the models of the units
pub same_rows : (models : List LineModel) (f g : ℕ → ℕ) (station interval reach : ℕ)
    → ((m : ℕ) → m < length models → f m ≡ g m)
    → (k start : ℕ) (units : List ℕ) → All (λ m. m < length models) units
    → unit_rows models f station interval reach k start units ≡ unit_rows models g station interval reach k start units
same_rows models f g station interval reach same k start [] within = refl
same_rows models f g station interval reach same k start (m ∷ units) within =
    let row : ℕ → List ℕ = λ w.
    timeline_row station k (model_at models m).name start w (utility_of start w reach)
    ++ unit_rows models f station interval reach (suc k) (next_start start w reach interval) units in
    let first : List ℕ = timeline_row station k (model_at models m).name start (g m) (utility_of start (g m) reach) in
    ap row (same m (within zero 0 (omega arith)))
    ∙ ap (λ (t : List ℕ). first ++ t)
    (same_rows models f g station interval reach same (suc k) (next_start start (g m) reach interval) units
    (λ j d less. within (suc j) d (omega (arith, less))))
