use Rattle.std.proofs.Common.{◌≡◌, length, sym, ap, ◌∙◌}
use Rattle.lemma_core.specs.Books.{BookView}
use Rattle.lemma_core.proofs.Logs.{length-items}
use Rattle.lemma_core.proofs.book.Book.log_len.Goals as goal

pub returns-clause-len : goal.returns-clause-len
returns-clause-len c =
    let e : length c.self.inside.log.items ≡ length c.args.self.now.events =
    sym (length-items c.self.inside.entries c.self.inside.log.items)
    ∙ ap (λ (b : BookView). length b.events) c.self.view_is in
    c.len.ensures ∙ (c.self.inside.log.ok.0 ∙ e)
