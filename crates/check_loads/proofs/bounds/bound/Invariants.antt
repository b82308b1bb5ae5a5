use Rattle.std.proofs.Common.{◌≤◌, ◌-◌}
use Rattle.line_rules.specs.Bounds.{bound}
use Rattle.check_loads.proofs.bounds.bound.Given as goal

abbrev pub invariant-climb : goal.invariant-climb
invariant-climb l = l.least ≤ bound l.kind l.inst l.cycle l.set

abbrev pub decreases-climb : goal.decreases-climb
decreases-climb l = bound l.kind l.inst l.cycle l.set - l.least
