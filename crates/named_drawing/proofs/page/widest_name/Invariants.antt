use Rattle.std.proofs.Common.{◌≡◌, ◌≤◌}
use Rattle.task_names.specs.TaskNames.{name_at}
use Rattle.line_rules.specs.Bounds.{greatest_below}
use Rattle.named_drawing.specs.Widths.{width}
use Rattle.named_drawing.proofs.page.widest_name.Given as goal

abbrev pub invariant-loop-task : goal.invariant-loop-task
invariant-loop-task l = record {
  widest : l.widest ≡ greatest_below l.task (λ i. width (name_at l.names i));
  limit : l.widest ≤ 768;
}
