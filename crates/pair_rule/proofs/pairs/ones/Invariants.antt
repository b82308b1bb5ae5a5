use Rattle.pair_rule.proofs.OnesLeft.{AreLeft}
use Rattle.pair_rule.proofs.pairs.ones.Given as goal

abbrev pub invariant-loop-j : goal.invariant-loop-j
invariant-loop-j l = record {
  can_next : (goal.iterator-loop-j).can_next l.j-iterator;
  finite : (goal.iterator-loop-j).is_finite l.j-iterator;
  left : AreLeft l.kind l.inst l.cycle l.set l.two l.one l.j-iterator;
}
