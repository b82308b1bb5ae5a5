use Rattle.std.proofs.Common.{◌∙◌, sym, ap, ◌/◌, ◌%◌, get_or, false, eqb}
use Rattle.line_instance.specs.inner.Words.{get_or-truths}
use Rattle.std.proofs.lemmas.Nat.Bits.{shr_and_one}
use Rattle.line_instance.proofs.sets.TaskSet.has.Goals as goal

pub returns : goal.returns
returns c =
    ap (λ w. eqb w 1) (shr_and_one (get_or c.self.inside.words (c.args.i / 64) 0) (c.args.i % 64))
    ∙ sym (get_or-truths c.self.inside.words c.args.i c.requires)
    ∙ ap (λ t. get_or t c.args.i false) c.self.view_is
