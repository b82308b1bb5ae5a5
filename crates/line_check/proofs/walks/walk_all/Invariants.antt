use Rattle.std.proofs.Common.{IfSome, ◌≤◌, ◌-◌, take}
use Rattle.check_loads.specs.Standing.{IsWalk, last_of}
use Rattle.line_check.specs.inner.Steps.{AreChained}
use Rattle.line_check.proofs.WalkFacts.{IsWalking}
use Rattle.line_check.proofs.walks.walk_all.Given as goal

abbrev pub invariant-loads : goal.invariant-loads
invariant-loads l = record {
  is : IsWalk l.inst l.q.cycle l.q.mode l.q.set l.walk;
  walking : IsWalking l.q.kind l.inst l.q.cycle l.q.mode l.q.set l.q.most (take l.k l.entries) l.cites (last_of l.walk)
      l.units l.taken;
  less : l.units ≤ l.steps;
  chained : IfSome l.chained (AreChained l.inst l.q);
}

abbrev pub decreases-loads : goal.decreases-loads
decreases-loads l = l.steps - l.units
