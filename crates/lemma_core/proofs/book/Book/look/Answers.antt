use Rattle.std.proofs.Common.{sym, ◌∙◌}
use Rattle.lemma_core.proofs.LastAnswers.{last_within}
use Rattle.lemma_core.proofs.book.Book.look.Goals as goal

pub looked-requires : goal.looked-requires
looked-requires c = λ id e. last_within c.self.inside.entries c.args.set.now c.args.most c.self.inside.cycle id
    (sym c.find.ensures ∙ e)
