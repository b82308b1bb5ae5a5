use Rattle.pair_search.proofs.StepFacts.{HullLeft}
use Rattle.pair_search.proofs.step.hull.Given as goal

abbrev pub invariant-loop-i : goal.invariant-loop-i
invariant-loop-i l = record {
  can_next : (goal.iterator-loop-i).can_next l.i-iterator;
  finite : (goal.iterator-loop-i).is_finite l.i-iterator;
  left : HullLeft l.inst l.tasks l.after l.before l.i-iterator;
}
