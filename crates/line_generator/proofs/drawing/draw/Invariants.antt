use Rattle.std.proofs.Common.{◌≡◌}
use Rattle.line_generator.specs.Drawn.{in_front, times_of, arcs_of}
use Rattle.line_generator.proofs.drawing.draw.Given as goal

abbrev pub invariant-loop-task : goal.invariant-loop-task
invariant-loop-task l = record {
  times : l.times.items ≡ times_of l.fn.seed l.task;
  arcs : l.arcs.items ≡ arcs_of l.fn.seed l.task;
  rng : l.rng ≡ in_front l.fn.seed l.task;
}
