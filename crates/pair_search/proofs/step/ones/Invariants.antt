use Rattle.pair_search.proofs.StepFacts.{OnesLeft}
use Rattle.pair_search.proofs.step.ones.Given as goal

abbrev pub invariant-loop-i : goal.invariant-loop-i
invariant-loop-i l = record {
  can_next : (goal.iterator-loop-i).can_next l.i-iterator;
  finite : (goal.iterator-loop-i).is_finite l.i-iterator;
  left : OnesLeft l.rows l.items l.two l.one l.i-iterator;
}
