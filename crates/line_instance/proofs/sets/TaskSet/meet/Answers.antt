use Rattle.std.specs.Simd.Lanes.{zip2}
use Rattle.std.proofs.Common.{bit_and}
use Rattle.line_instance.specs.inner.Words.{length-truths}
use Rattle.std.proofs.Common.{◌∙◌, ap}
use Rattle.line_instance.specs.Truths.{meet, truths_of}
use Rattle.line_instance.proofs.Bits.{truths-and}
use Rattle.line_instance.proofs.sets.TaskSet.meet.Goals as goal

pub returns-clause-value : goal.returns-clause-value
returns-clause-value c =
    truths-and c.self.inside.words c.other.inside.words c.self.invariant c.other.invariant
    ∙ ap (λ a. meet a (truths_of c.other.inside.words)) c.self.view_is
    ∙ ap (λ b. meet c.args.self.now b) c.other.view_is

pub returns-clause-truths : goal.returns-clause-truths
returns-clause-truths c = length-truths (zip2 bit_and c.self.inside.words c.other.inside.words)
