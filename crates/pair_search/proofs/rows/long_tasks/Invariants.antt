use Rattle.pair_search.proofs.RowFacts.{LongLeft}
use Rattle.pair_search.proofs.rows.long_tasks.Given as goal

abbrev pub invariant-loop-j : goal.invariant-loop-j
invariant-loop-j l = record {
  can_next : (goal.iterator-loop-j).can_next l.j-iterator;
  finite : (goal.iterator-loop-j).is_finite l.j-iterator;
  left : LongLeft l.inst l.cycle l.long l.j-iterator;
}
