use Rattle.std.proofs.Common.{◌≤◌, ◌-◌, length}
use Rattle.line_check.specs.Lists.{AreRightBelow}
use Rattle.wide_check.proofs.batches.entries_found.Given as goal

abbrev pub decreases-loop-from : goal.decreases-loop-from
decreases-loop-from g l = length l.entries - l.from

abbrev pub invariant-loop-from : goal.invariant-loop-from
invariant-loop-from g l = record {
  within : l.from ≤ length l.entries;
  below : AreRightBelow l.kind l.inst l.entries l.from l.units;
  few : l.units ≤ l.steps;
}
