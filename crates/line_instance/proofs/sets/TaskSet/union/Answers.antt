use Rattle.std.proofs.Common.{bit_or, ◌∙◌, ap}
use Rattle.line_instance.specs.Truths.{union, truths_of}
use Rattle.line_instance.proofs.Bits.{truths-or}
use Rattle.line_instance.specs.inner.Words.{length-truths}
use Rattle.std.specs.Simd.Lanes.{zip2}
use Rattle.line_instance.proofs.sets.TaskSet.union.Goals as goal

pub returns-clause-value : goal.returns-clause-value
returns-clause-value c =
    truths-or c.self.inside.words c.other.inside.words c.self.invariant c.other.invariant
    ∙ ap (λ a. union a (truths_of c.other.inside.words)) c.self.view_is
    ∙ ap (λ b. union c.args.self.now b) c.other.view_is

pub returns-clause-truths : goal.returns-clause-truths
returns-clause-truths c = length-truths (zip2 bit_or c.self.inside.words c.other.inside.words)
