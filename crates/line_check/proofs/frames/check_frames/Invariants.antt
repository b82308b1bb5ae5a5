use Rattle.std.proofs.Common.{◌≤◌}
use Rattle.line_check.specs.Frames.{AreRightTo}
use Rattle.line_check.proofs.frames.check_frames.Given as goal

abbrev pub invariant-loop-j : goal.invariant-loop-j
invariant-loop-j l = record {
  right : AreRightTo l.kind l.inst l.trail.cycle l.entries l.trail.frames l.j l.units;
  few : l.units ≤ l.steps;
}
