use Rattle.line_instance.proofs.JoinedRows.{AreFilled}
use Rattle.line_instance.proofs.rows.closed_rows.Given as goal

abbrev pub invariant-loop-k : goal.invariant-loop-k
invariant-loop-k l = AreFilled l.direct l.order l.rows.items l.k
