use Rattle.std.proofs.Common.{sym, subst}
use Rattle.line_rules.specs.Balance.{IsRight}
use Rattle.lemma_core.specs.Machine.{About}
use Rattle.tests_share.proofs.books.offer.Goals as goal

pub offer-requires-clause-right : goal.offer-requires-clause-right
offer-requires-clause-right g c = subst (λ (a : About). IsRight a.kind a.line a.cycle c.args.best)
    (sym c.requires.about) c.requires.best.right
