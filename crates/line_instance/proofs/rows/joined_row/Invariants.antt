use Rattle.line_instance.proofs.JoinedRows.{IsJoining}
use Rattle.line_instance.proofs.rows.joined_row.Given as goal

abbrev pub invariant-loop-j : goal.invariant-loop-j
invariant-loop-j l = IsJoining l.direct l.rows l.row l.bound

abbrev pub decreases-loop-j : goal.decreases-loop-j
decreases-loop-j l = l.bound
