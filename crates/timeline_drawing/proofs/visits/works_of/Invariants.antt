use Rattle.timeline_drawing.specs.Visits.{AreWorks}
use Rattle.timeline_drawing.proofs.visits.works_of.Given as goal

abbrev pub invariant-loop-s : goal.invariant-loop-s
invariant-loop-s l = AreWorks l.mix l.balance.place l.rows.items l.s
