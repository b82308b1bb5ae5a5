use Rattle.std.proofs.Common.{subst}
use Rattle.line_rules.specs.Entries.{IsDerived}
use Rattle.lemma_core.specs.Books.{BookView}
use Rattle.lemma_core.proofs.book.Book.into_parts.Goals as goal

pub returns-clause-derived : goal.returns-clause-derived
returns-clause-derived c =
    let P : BookView → Type 0 = λ b. IsDerived b.about.kind b.about.line c.self.inside.entries in
    subst P c.self.view_is c.self.invariant.0.derived
