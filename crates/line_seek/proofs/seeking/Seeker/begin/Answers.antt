use Rattle.std.proofs.Common.{◌∙◌, sym, ap, subst}
use Rattle.line_rules.specs.Balance.{IsRight}
use Rattle.line_rules.specs.declared.types.LineKind.{LineKind}
use Rattle.lemma_core.specs.Books.{BookView}
use Rattle.line_seek.specs.inner.Tries.{Suits}
use Rattle.line_seek.proofs.PaidFacts.{paid_none}
use Rattle.line_seek.proofs.SeekFacts.{about_same, seeking_begins}
use Rattle.line_seek.proofs.seeking.Seeker.begin.Goals as goal

pub returns-clause-seeking : goal.returns-clause-seeking
returns-clause-seeking c =
    let M : LineKind → Type 0 = λ z. Suits z c.first.result in
    seeking_begins c.args.book.now.about c.args.book.now.state.best _ c.requires.cycle
    (subst (λ b. IsRight c.args.book.now.about.kind c.args.book.now.about.line c.args.book.now.about.cycle b)
    c.best.ensures.best c.best.ensures.right.right)
    (ap (λ (z : BookView). z.about) c.make.ensures
    ∙ about_same c.args.book.now.about c.in_ok-copy.field-0 c.kind-kind.result c.cycle-cycle.result
    (c.in_ok-copy.ensures ∙ sym c.requires.same) c.kind-kind.ensures c.cycle-cycle.ensures)
    (c.in_ok-best.ensures ∙ c.best.ensures.best)
    (paid_none (record { line = c.in_ok-copy.field-0; kind = c.kind-kind.result; cycle = c.cycle-cycle.result })
    c.in_ok-first.first c.make.result c.make.ensures)
    (subst M c.kind-kind.ensures c.first.ensures.suits)
