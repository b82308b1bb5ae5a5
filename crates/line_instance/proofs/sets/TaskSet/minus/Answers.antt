use Rattle.std.specs.Simd.Lanes.{zip2}
use Rattle.std.proofs.Common.{bit_and, map, w64}
use Rattle.std.specs.Int.{bit_not}
use Rattle.line_instance.specs.inner.Words.{length-truths}
use Rattle.std.proofs.Common.{◌∙◌, ap}
use Rattle.line_instance.specs.Truths.{minus, truths_of}
use Rattle.line_instance.proofs.Bits.{truths-minus}
use Rattle.line_instance.proofs.sets.TaskSet.minus.Goals as goal

pub returns-clause-value : goal.returns-clause-value
returns-clause-value c =
    truths-minus c.self.inside.words c.other.inside.words c.self.invariant c.other.invariant
    ∙ ap (λ a. minus a (truths_of c.other.inside.words)) c.self.view_is
    ∙ ap (λ b. minus c.args.self.now b) c.other.view_is

pub returns-clause-truths : goal.returns-clause-truths
returns-clause-truths c = length-truths (zip2 bit_and c.self.inside.words (map (bit_not w64) c.other.inside.words))
