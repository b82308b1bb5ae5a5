use Rattle.line_instance.proofs.Members.{members}
use Rattle.line_rules.proofs.SideTurns.{Freeing}
use Rattle.station_load.proofs.ends.End.add_ready.Given as goal

abbrev pub invariant-loop-task : goal.invariant-loop-task
invariant-loop-task l = Freeing l.inst l.side l.set l.initial.self.tasks l.fn.candidates l.initial.self.free l.left
    l.self.tasks l.self.free l.self.places

abbrev pub decreases-loop-task : goal.decreases-loop-task
decreases-loop-task l = members l.left
