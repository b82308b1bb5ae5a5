use Rattle.std.proofs.Common.{sym, subst}
use Rattle.line_rules.specs.Entries.{Follows}
use Rattle.lemma_core.specs.Machine.{About}
use Rattle.lemma_core.specs.Desks.{entries}
use Rattle.book_share.specs.Passes.{desk_by}
use Rattle.tests_share.proofs.books.try_publish.Goals as goal

pub try_publish-requires-clause-follows : goal.try_publish-requires-clause-follows
try_publish-requires-clause-follows c =
    let es = entries (desk_by c.args.pass.now.view) in
    subst (λ (a : About). Follows a.kind a.line es c.in_ok-step.step) (sym c.requires.about)
    (c.in_ok-step.ensures.follows es)
