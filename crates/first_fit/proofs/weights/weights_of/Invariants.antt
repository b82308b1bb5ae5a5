use Rattle.std.proofs.Common.{◌≡◌, ◌<◌, ℕ, length, slice_index}
use Rattle.line_rules.specs.Ranked.{weight}
use Rattle.line_rules.specs.declared.types.Side.TheVariants.{Front, Back}
use Rattle.first_fit.proofs.weights.weights_of.Given as goal

abbrev pub invariant-loop-task : goal.invariant-loop-task
invariant-loop-task l = record {
  fronts : length l.front.items ≡ l.task;
  backs : length l.back.items ≡ l.task;
  front : (i : ℕ) → i < l.task → slice_index l.front.items i ≡ weight l.inst i Front;
  back : (i : ℕ) → i < l.task → slice_index l.back.items i ≡ weight l.inst i Back;
}
