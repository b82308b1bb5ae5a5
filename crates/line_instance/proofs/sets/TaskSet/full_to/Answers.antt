use Rattle.std.proofs.Common.{◌∙◌, ap, arith}
use Rattle.std.specs.Prelude.{ltb}
use Rattle.line_instance.specs.inner.Words.{length-truths}
use Rattle.line_instance.proofs.Bits.{fits_set, zero_words}
use Rattle.line_instance.proofs.Fills.{fill, filled}
use Rattle.line_instance.proofs.sets.TaskSet.full_to.Goals as goal

pub loop-k-init : goal.loop-k-init
loop-k-init c = record {
  words = zero_words;
  below = λ j l. absurd (omega arith);
}

pub loop-k-preserved : goal.loop-k-preserved
loop-k-preserved c = record {
  words = fits_set c.loop-k.words c.loop-k.invariant.words c.loop-k.k c.ones_below.result c.ones_below.ensures.fits;
  below = fill c.loop-k.words c.loop-k.invariant.words c.loop-k.k c.args.n c.ones_below.result (omega arith)
      (λ j l. c.ones_below.ensures.bits j l ∙ ap (λ m. ltb j m) c.saturating_sub.ensures) c.loop-k.invariant.below;
}

pub returns-clause-value : goal.returns-clause-value
returns-clause-value c = filled c.loop-k.words c.args.n (λ j l. c.loop-k.invariant.below j (omega arith))

pub returns-clause-truths : goal.returns-clause-truths
returns-clause-truths c = length-truths c.loop-k.words
