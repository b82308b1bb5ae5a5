use Rattle.pair_search.proofs.StepFacts.{hull_start, hull_turn, hull_end, hull_within}
use Rattle.pair_search.proofs.step.hull.Goals as goal

pub loop-i-init : goal.loop-i-init
loop-i-init c = record {
  can_next = tt;
  finite = tt;
  left = hull_start c.args.inst.now c.args.tasks.now c.empty-after.result c.empty-before.result _
      c.into_iter-i-iterator.ensures.into_iter_gives;
}

pub loop-i-preserved : goal.loop-i-preserved
loop-i-preserved c = record {
  can_next = tt;
  finite = tt;
  left = hull_turn c.loop-i.invariant.left c.in-Some.ensures.steps c.after.result.now c.before-in-loop-i.result.now
      c.union-after.result c.union-before.result c.after.ensures.members c.before-in-loop-i.ensures.members
      c.union-after.ensures.value c.union-before.ensures.value;
}

pub returns-clause-within : goal.returns-clause-within
returns-clause-within c = hull_within c.args.tasks.now c.meet.result c.union.result c.union.ensures.value

pub returns-clause-between : goal.returns-clause-between
returns-clause-between c = λ straight. hull_end c.loop-i.invariant.left (c.in-None.ensures.steps).0 c.meet.result
    c.union.result c.meet.ensures.value c.union.ensures.value
