use Rattle.line_instance.proofs.MarkedRows.{IsMarking}
use Rattle.line_instance.proofs.rows.mark_rows.Given as goal

abbrev pub invariant-loop-t : goal.invariant-loop-t
invariant-loop-t l = IsMarking l.fn.rows l.chosen l.mark l.rows l.bound

abbrev pub decreases-loop-t : goal.decreases-loop-t
decreases-loop-t l = l.bound
