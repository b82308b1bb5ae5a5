use Rattle.std.proofs.Common.{◌≤◌}
use Rattle.line_check.specs.Lists.{AreRightBelow}
use Rattle.wide_check.proofs.batches.gone_over.Given as goal

abbrev pub invariant-loop-k : goal.invariant-loop-k
invariant-loop-k l = record {
  below : AreRightBelow l.kind l.inst l.entries l.k l.units;
  few : l.units ≤ l.steps;
}
