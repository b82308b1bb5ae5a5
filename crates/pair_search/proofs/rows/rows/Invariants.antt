use Rattle.pair_search.proofs.RowFacts.{AreRowsBelow}
use Rattle.pair_search.proofs.rows.rows.Given as goal

abbrev pub invariant-loop-i : goal.invariant-loop-i
invariant-loop-i l = AreRowsBelow l.kind l.inst l.cycle l.long l.rows.items l.i
