use Rattle.std.proofs.Common.{Bool, List, [], sym, subst}
use Rattle.std.proofs.lemmas.List.{get_or_read}
use Rattle.line_instance.specs.Truths.{In}
use Rattle.pair_search.proofs.StepFacts.{ones_start, ones_turn, ones_next}
use Rattle.pair_search.proofs.step.ones.Goals as goal

pub loop-i-init : goal.loop-i-init
loop-i-init c = record {
  can_next = tt;
  finite = tt;
  left = ones_start c.args.rows.now c.args.items.now c.args.two.now _ c.minus-one.result c.minus-one.ensures.value
      c.into_iter-i-iterator.ensures.into_iter_gives;
}

pub loop-i-preserved : goal.loop-i-preserved
loop-i-preserved c = record {
  can_next = tt;
  finite = tt;
  left = ones_turn c.loop-i.invariant.left c.in-Some.ensures.steps c.index-rows-i.result
      (get_or_read c.args.rows.now c.in-Some.i c.index-rows-i.result
      (c.requires.rows c.in-Some.i (ones_next c.loop-i.invariant.left c.in-Some.ensures.steps)) c.index-rows-i.is [])
      (λ j m. c.is_empty.ensures.0 c.if-not-is_empty.false j
      (let P : List Bool → Type 0 = λ s. In s j in subst P (sym c.meet.ensures.value) m))
      c.minus-one-in-loop-i.result c.minus-one-in-loop-i.ensures.value;
}
