use Rattle.line_instance.proofs.Members.{members}
use Rattle.line_rules.proofs.SidePlaces.{Placing}
use Rattle.station_load.proofs.sides.places_of.Given as goal

abbrev pub invariant-loop-task : goal.invariant-loop-task
invariant-loop-task l = Placing l.inst l.side l.part l.left l.places

abbrev pub decreases-loop-task : goal.decreases-loop-task
decreases-loop-task l = members l.left
