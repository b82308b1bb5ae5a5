use Rattle.line_instance.proofs.MarkedRows.{IsTurning}
use Rattle.line_instance.proofs.rows.turned_rows.Given as goal

abbrev pub invariant-loop-j : goal.invariant-loop-j
invariant-loop-j l = IsTurning l.rows l.turned.items l.j
