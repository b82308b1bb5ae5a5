use Rattle.std.proofs.Common.{sym, arith, subst}
use Rattle.lemma_core.specs.Books.{BookView, IsReserved}
use Rattle.lemma_core.specs.History.{items_of}
use Rattle.lemma_core.proofs.Logs.{length-items, few_offers}
use Rattle.lemma_core.proofs.book.Book.reopen.Goals as goal

pub returns-clause-reserved : goal.returns-clause-reserved
returns-clause-reserved c = λ r.
    let h = items_of c.self.inside.entries c.self.inside.log.items in
    let q = (let P : BookView → Type 0 = λ b. IsReserved b in subst P (sym c.self.view_is) r) in
    omega (
      arith,
      q,
      few_offers h,
      length-items c.self.inside.entries c.self.inside.log.items,
      c.tasks-tasks.ensures.tasks,
      c.len.ensures,
      c.min.ensures,
      c.self.inside.log.ok.0,
    )
