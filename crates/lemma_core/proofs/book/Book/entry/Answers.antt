use Rattle.std.proofs.Common.{subst}
use Rattle.line_rules.specs.Balance.{Holds}
use Rattle.lemma_core.specs.Books.{BookView}
use Rattle.lemma_core.proofs.book.Book.entry.Goals as goal

pub returns-clause-holds : goal.returns-clause-holds
returns-clause-holds c =
    let P : BookView → Type 0 = λ b. Holds b.about.kind b.about.line c.at.result.now.cycle c.at.result.now.set
    c.at.result.now.most in
    subst P c.self.view_is (c.every_entry_holds.ensures c.self.inside.kind c.self.inside.instance
    c.tasks-tasks.ensures.line c.self.inside.entries c.self.invariant.0.derived c.args.id c.at.result.now
    c.at.ensures)
