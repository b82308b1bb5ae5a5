-- The demands and the works of a mix on a balanced line.
use Rattle.std.specs.Prelude.{◌≡◌, ℕ, ◌+◌, ◌<◌, ◌≤◌, List, [], length, slice_index_or}
use Rattle.combined_graph.specs.Mixes.{LineModel, MixedLine, model_at}
use Rattle.line_rules.specs.declared.types.Seatplace.{Seatplace}
pub use Rattle.utility_work.specs.Utility.{work_at}

-- how many units of a model are wanted
abbrev pub demand_of : LineModel → ℕ
demand_of model = model.demand

-- a row of works for each of the first n stations: of each model, at most 1,024,000,000,000
pub record AreRows (mix : MixedLine) (places : List Seatplace) (rows : List (List ℕ)) (n : ℕ) : Type 0 where
  pub each : length rows ≡ n
  pub work : (s m : ℕ) → s < n → m < length mix.models → slice_index_or (slice_index_or rows s []) m 0
      ≡ work_at places (s + 1) (model_at mix.models m)
  pub limit : (s m : ℕ) → s < n → slice_index_or (slice_index_or rows s []) m 0 ≤ 1024000000000
  pub wide : (s : ℕ) → s < n → length (slice_index_or rows s []) ≡ 16
