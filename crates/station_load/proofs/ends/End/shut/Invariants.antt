use Rattle.line_instance.specs.Truths.{meet}
use Rattle.line_instance.proofs.Members.{members}
use Rattle.line_rules.proofs.SideTurns.{Shutting}
use Rattle.station_load.proofs.ends.End.shut.Given as goal

abbrev pub invariant-loop-other : goal.invariant-loop-other
invariant-loop-other l = Shutting l.inst l.side l.task l.fn.self.tasks l.fn.self.free (meet l.waiting l.self.free)
    l.self.tasks l.self.free l.self.places

abbrev pub decreases-loop-other : goal.decreases-loop-other
decreases-loop-other l = members l.self.free
