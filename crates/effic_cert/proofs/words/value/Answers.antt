use Rattle.std.proofs.Common.{◌∙◌, ap, min}
use Rattle.std.proofs.lemmas.List.{take_all}
use Rattle.line_io.specs.Lines.{value_of}
use Rattle.effic_cert.specs.inner.WideReading.{widest}
use Rattle.effic_cert.proofs.WideWords.{wide_next}
use Rattle.effic_cert.proofs.words.value.Goals as goal

pub loop-b-preserved : goal.loop-b-preserved
loop-b-preserved c =
    wide_next c.loop-b.b-index c.from.result c.loop-b.value c.saturating_mul.result c.saturating_add-value.result
    c.args.digits.now c.loop-b-test.true c.loop-b.invariant (c.from.ensures ∙ c.saturating_sub-digit.ensures)
    c.saturating_mul.ensures c.saturating_add-value.ensures

pub returns : goal.returns
returns c = c.loop-b.invariant ∙ ap (λ w. min (value_of w) widest)
    (take_all c.loop-b.b-index c.args.digits.now c.loop-b-test.false)
