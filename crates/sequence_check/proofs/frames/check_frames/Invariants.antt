use Rattle.std.proofs.Common.{◌≤◌}
use Rattle.sequence_check.specs.Frames.{AreRightTo}
use Rattle.sequence_check.proofs.frames.check_frames.Given as goal

abbrev pub invariant-loop-j : goal.invariant-loop-j
invariant-loop-j l = record {
  below : AreRightTo l.times l.interval l.reach l.charges l.entries l.frames l.j l.units;
  few : l.units ≤ l.steps;
}
