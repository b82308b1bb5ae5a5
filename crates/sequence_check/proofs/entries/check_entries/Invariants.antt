use Rattle.std.proofs.Common.{◌≤◌}
use Rattle.sequence_check.specs.Lists.{AreRightBelow}
use Rattle.sequence_check.proofs.entries.check_entries.Given as goal

abbrev pub invariant-loop-k : goal.invariant-loop-k
invariant-loop-k l = record {
  below : AreRightBelow l.times l.interval l.reach l.charges l.entries l.k l.units;
  few : l.units ≤ l.steps;
}
