use Rattle.std.proofs.Common.{arith, length}
use Rattle.line_instance.proofs.JoinedRows.{empty_ones}
use Rattle.line_instance.proofs.rows.clear_rows.Goals as goal

pub returns : goal.returns
returns c = empty_ones (length c.args.rows.now) c.loop-t.rows (omega arith) (λ t l. c.loop-t.invariant t (omega arith))
