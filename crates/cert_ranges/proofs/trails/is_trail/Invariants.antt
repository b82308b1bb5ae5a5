use Rattle.line_rules.specs.Ranges.{IsFrame}
use Rattle.cert_ranges.proofs.Items.{EachBelow}
use Rattle.cert_ranges.proofs.trails.is_trail.Given as goal

abbrev pub invariant-loop-k : goal.invariant-loop-k
invariant-loop-k l = EachBelow (IsFrame l.tasks l.count) l.trail.frames l.k
