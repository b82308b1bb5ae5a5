use Rattle.std.proofs.Common.{◌∙◌, sym, subst, ap, refl, List, Bool, bit_and, get_or, ℕ, ◌<◌}
use Rattle.line_instance.specs.inner.Words.{length-truths}
use Rattle.line_instance.specs.Truths.{In, meet, truths_of}
use Rattle.line_instance.proofs.LowWords.{low_meet}
use Rattle.line_instance.proofs.sets.TaskSet.meet_low.Goals as goal

pub returns-clause-value : goal.returns-clause-value
returns-clause-value c =
    let ws = c.self.inside.words in
    let vs = c.other.inside.words in
    let L : List Bool → Type 0 = λ t. (i : ℕ) → In t i → i < 128 in
    low_meet ws vs c.self.invariant c.other.invariant (subst L (sym c.self.view_is) c.requires)
    (bit_and (get_or ws 0 0) (get_or vs 0 0)) (bit_and (get_or ws 1 0) (get_or vs 1 0)) refl refl
    ∙ ap (λ a. meet a (truths_of vs)) c.self.view_is ∙ ap (λ b. meet c.args.self.now b) c.other.view_is

pub returns-clause-truths : goal.returns-clause-truths
returns-clause-truths c = length-truths _
