-- The weights of all tasks, as they are kept.
use Rattle.std.specs.Prelude.{◌≡◌, ℕ, ◌<◌, length, slice_index}
use Rattle.line_instance.specs.Line.{Line, tasks}
use Rattle.line_rules.specs.Ranked.{weight}
use Rattle.line_rules.specs.declared.types.Side.{Side}
use Rattle.line_rules.specs.declared.types.Side.TheVariants.{Front, Back}
use Rattle.first_fit.specs.declared.weights.Weights.{Weights as Kept}

-- the weight that is kept of a task at a side
abbrev pub weight_in : Kept → ℕ → Side → ℕ
weight_in w i Front = slice_index w.front.items i
weight_in w i Back = slice_index w.back.items i

-- the weights of each task in front and at the back
pub record AreWeights (line : Line) (w : Kept) : Type 0 where
  pub fronts : length w.front.items ≡ tasks line
  pub backs : length w.back.items ≡ tasks line
  pub each : (i : ℕ) (side : Side) → i < tasks line → weight_in w i side ≡ weight line i side
