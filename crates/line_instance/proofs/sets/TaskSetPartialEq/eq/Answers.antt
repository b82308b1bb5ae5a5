use Rattle.std.proofs.Common.{◌∙◌, sym, ap}
use Rattle.line_instance.specs.Truths.{truths_of}
use Rattle.line_instance.specs.inner.Words.{same_words, equal_sets}
use Rattle.std.specs.Bool.{beq}
use Rattle.std.specs.Cmp.{unsigned_Decides}
use Rattle.std.proofs.lemmas.Slice.Eq.{slice_eq-Decides}
use Rattle.std.proofs.lemmas.Bool.Decides.{same_from_decides, Decides-like}
use lib.Pointwise.{pointwise}
use Rattle.line_instance.proofs.sets.TaskSetPartialEq.eq.Goals as goal

pub returns : goal.returns
returns c =
    let ws = c.self.inside.words in
    let vs = c.other.inside.words in
    same_from_decides c.eq.result (pointwise beq c.args.self.now c.args.other.now)
    (Decides-like c.eq.result
    (λ e. sym c.self.view_is ∙ ap truths_of e ∙ c.other.view_is)
    (λ e. same_words ws vs c.self.invariant c.other.invariant (c.self.view_is ∙ e ∙ sym c.other.view_is))
    (slice_eq-Decides unsigned_Decides ws vs c.eq.result c.eq.ensures))
    (equal_sets c.args.self.now c.args.other.now)
