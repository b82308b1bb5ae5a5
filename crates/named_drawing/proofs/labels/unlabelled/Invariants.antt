use Rattle.std.proofs.Common.{◌≡◌, ◌++◌, drop}
use Rattle.named_drawing.specs.Labels.{unlabelled}
use Rattle.named_drawing.proofs.labels.unlabelled.Given as goal

abbrev pub invariant-loop-segment : goal.invariant-loop-segment
invariant-loop-segment l = l.numbers.items ++ unlabelled l.names (drop l.segment-index l.segments) ≡ unlabelled l.names
    l.segments
