use Rattle.std.proofs.Common.{◌∙◌, sym, subst, ap, refl, List, Bool, bit_and, get_or, w64, ℕ, ◌<◌}
use Rattle.std.specs.Int.{bit_not}
use Rattle.line_instance.specs.inner.Words.{length-truths}
use Rattle.line_instance.specs.Truths.{In, minus, truths_of}
use Rattle.line_instance.proofs.LowWords.{low_minus}
use Rattle.line_instance.proofs.sets.TaskSet.take_out_low.Goals as goal

pub returns-clause-value : goal.returns-clause-value
returns-clause-value c =
    let ws = c.self.inside.words in
    let vs = c.other.inside.words in
    let L : List Bool → Type 0 = λ t. (i : ℕ) → In t i → i < 128 in
    low_minus ws vs c.self.invariant c.other.invariant (subst L (sym c.self.view_is) c.requires)
    (bit_and (get_or ws 0 0) (bit_not w64 (get_or vs 0 0))) (bit_and (get_or ws 1 0) (bit_not w64 (get_or vs 1 0)))
    refl refl
    ∙ ap (λ a. minus a (truths_of vs)) c.self.view_is ∙ ap (λ b. minus c.args.self.now b) c.other.view_is

pub returns-clause-truths : goal.returns-clause-truths
returns-clause-truths c = length-truths _
