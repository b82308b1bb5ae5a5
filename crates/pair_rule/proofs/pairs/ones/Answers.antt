use Rattle.std.proofs.Common.{sym, ◌∙◌, arith}
use Rattle.std.proofs.lemmas.Bool.{false≢true}
use Rattle.pair_rule.proofs.OnesLeft.{ones_start, ones_stay, ones_go, ones_next, ones_end}
use Rattle.pair_rule.proofs.pairs.ones.Goals as goal

pub loop-j-init : goal.loop-j-init
loop-j-init c = record {
  can_next = tt;
  finite = tt;
  left = ones_start c.minus-rest.result c.minus-rest.ensures.value c.minus-rest.ensures.truths
      c.into_iter-j-iterator.ensures.into_iter_gives;
}

pub is_one-requires-clause-member : goal.is_one-requires-clause-member
is_one-requires-clause-member c = (ones_next c.loop-j.invariant.left c.in-Some.ensures.steps).0

pub is_one-requires-clause-outside : goal.is_one-requires-clause-outside
is_one-requires-clause-outside c = (ones_next c.loop-j.invariant.left c.in-Some.ensures.steps).1

pub remove-requires : goal.remove-requires
remove-requires c = omega (
  arith,
  c.tasks-tasks.ensures.line.small,
  c.requires.set.tasks c.in-Some.j
      (ones_next c.loop-j.invariant.left c.in-Some.ensures.steps).0,
)

pub loop-j-preserved-then-not-is_one : goal.loop-j-preserved-then-not-is_one
loop-j-preserved-then-not-is_one c = record {
  can_next = tt;
  finite = tt;
  left = ones_go c.loop-j.invariant.left c.in-Some.ensures.steps
      (λ o. false≢true (sym c.if-not-is_one.true ∙ c.is_one.ensures.1 o)) c.remove.new.self c.remove.ensures.value;
}

pub loop-j-preserved : goal.loop-j-preserved
loop-j-preserved c = record {
  can_next = tt;
  finite = tt;
  left = ones_stay c.loop-j.invariant.left c.in-Some.ensures.steps (c.is_one.ensures.0 c.if-not-is_one.false);
}

pub returns : goal.returns
returns c = ones_end c.loop-j.invariant.left c.in-None.ensures.steps.0
