use Rattle.line_rules.proofs.QuickWalk.{Advancing}
use Rattle.check_loads.proofs.loads.advance.Given as goal

abbrev pub invariant-loop-place : goal.invariant-loop-place
invariant-loop-place l = Advancing l.inst l.cycle l.fn.mode l.set l.side l.last l.end.tasks l.end.free l.end.places
    l.other l.below l.sum

abbrev pub decreases-loop-place : goal.decreases-loop-place
decreases-loop-place l = l.below
