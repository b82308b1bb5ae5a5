use Rattle.std.proofs.Common.{◌≡◌, ◌+◌, ◌-◌, ℕ, length, refl, subst, arith}
use Rattle.std.proofs.lemmas.Option.{slice_get_read}
use Rattle.line_check.specs.Lists.{AreRightBelow}
use Rattle.line_check.proofs.ListFacts.{right_more}
use Rattle.wide_check.specs.inner.Batches.{IsFoundAt}
use Rattle.wide_check.proofs.batches.gone_over.Goals as goal

pub settled-requires-clause-quick : goal.settled-requires-clause-quick
settled-requires-clause-quick c =
    let s : c.args.from + (c.loop-k.k - c.args.from) ≡ c.loop-k.k = omega (arith, c.loop-k.auto.k) in
    let P : ℕ → Type 0 = λ n. IsFoundAt c.args.kind c.args.inst.now c.args.entries.now n 65536 c.index-quick-k.result in
    subst P s (c.requires.quick.each (c.loop-k.k - c.args.from) c.index-quick-k.result
    (slice_get_read c.args.quick.now (length c.args.quick.now) (c.loop-k.k - c.args.from) c.index-quick-k.result refl
    (omega (arith, c.requires.quick.many, c.loop-k-test.true, c.loop-k.auto.k)) c.index-quick-k.is))

pub loop-k-preserved : goal.loop-k-preserved
loop-k-preserved c = record {
  below = right_more c.args.kind c.args.inst.now c.args.entries.now c.loop-k.k c.loop-k.units c.in-Right.more
      c.in-Right.ensures.entry c.in-Right.ensures.there c.loop-k.invariant.below c.in-Right.ensures.found.0
      c.in-Right.ensures.found.1;
  few = omega (arith, c.loop-k.invariant.few, c.in-Right.ensures.found.2);
}

pub returns-in-Fails : goal.returns-in-Fails
returns-in-Fails c = record {
  units = c.loop-k.units;
  below = c.loop-k.invariant.below;
  entry = c.in-Fails.ensures.entry;
  there = c.in-Fails.ensures.there;
  more = c.in-Fails.units;
  fails = c.in-Fails.ensures.found.0;
  few = omega (arith, c.loop-k.invariant.few, c.in-Fails.ensures.found.1);
}

pub returns-in-StepsEnded : goal.returns-in-StepsEnded
returns-in-StepsEnded c = record {
  at = c.loop-k.k;
  units = c.loop-k.units;
  below = c.loop-k.invariant.below;
  few = c.loop-k.invariant.few;
  entry = c.in-StepsEnded.ensures.entry;
  there = c.in-StepsEnded.ensures.there;
  ends = c.in-StepsEnded.ensures.found;
}

pub returns : goal.returns
returns c =
    let s : c.loop-k.k ≡ c.args.to = omega (arith, c.loop-k-test.false, c.loop-k.auto.k-end c.requires.from) in
    let P : ℕ → Type 0 = λ n. AreRightBelow c.args.kind c.args.inst.now c.args.entries.now n c.loop-k.units in
    (subst P s c.loop-k.invariant.below, c.loop-k.invariant.few)
