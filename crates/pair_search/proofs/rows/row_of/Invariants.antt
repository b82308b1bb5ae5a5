use Rattle.pair_search.proofs.RowFacts.{RowLeft}
use Rattle.pair_search.proofs.rows.row_of.Given as goal

abbrev pub invariant-loop-j : goal.invariant-loop-j
invariant-loop-j l = record {
  can_next : (goal.iterator-loop-j).can_next l.j-iterator;
  finite : (goal.iterator-loop-j).is_finite l.j-iterator;
  left : RowLeft l.kind l.inst l.cycle l.long l.i l.row l.j-iterator;
}
