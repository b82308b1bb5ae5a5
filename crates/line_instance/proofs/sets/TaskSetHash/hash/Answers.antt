use Rattle.std.proofs.Common.{◌∙◌, sym, ap, fold}
use Rattle.line_instance.specs.Truths.{words_of}
use Rattle.line_instance.specs.inner.Words.{words_of_truths}
use Rattle.std.specs.Hash as fed
use Rattle.line_instance.proofs.sets.TaskSetHash.hash.Goals as goal

pub returns : goal.returns
returns g c =
    c.hash.ensures ∙ ap (λ ws. fold g.H.Hasher.write c.args.state.now (fed.slice fed.u64 ws))
    (sym (words_of_truths c.self.inside.words c.self.invariant) ∙ ap words_of c.self.view_is)
