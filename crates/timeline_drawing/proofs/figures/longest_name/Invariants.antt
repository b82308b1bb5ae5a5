use Rattle.std.proofs.Common.{◌≡◌, ◌≤◌, length, get_or}
use Rattle.combined_graph.specs.Mixes.{model_at}
use Rattle.line_rules.specs.Bounds.{greatest_below}
use Rattle.timeline_drawing.proofs.figures.longest_name.Given as goal

abbrev pub invariant-loop-model : goal.invariant-loop-model
invariant-loop-model l = record {
  longest : l.longest ≡ greatest_below l.model-index (λ j. length (model_at l.mix.models (get_or l.sequence j 0)).name);
  few : l.longest ≤ 32;
}
