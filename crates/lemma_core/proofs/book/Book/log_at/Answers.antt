use Rattle.std.proofs.Common.{◌≡◌, ◌<◌, length, sym, ap, ◌∙◌, arith, subst, Some}
use Rattle.std.specs.Prelude.{slice_get}
use Rattle.std.proofs.lemmas.Option.{slice_get_read}
use Rattle.lemma_core.specs.History.{item_of, AreExact}
use Rattle.lemma_core.specs.Books.{BookView}
use Rattle.lemma_core.proofs.ExactItems.{exact_at}
use Rattle.lemma_core.proofs.Logs.{length-items, item-at}
use Rattle.lemma_core.proofs.book.Book.log_at.Goals as goal

pub index-requires : goal.index-requires
index-requires c =
    let e : length c.self.inside.log.items ≡ length c.args.self.now.events =
    sym (length-items c.self.inside.entries c.self.inside.log.items)
    ∙ ap (λ (b : BookView). length b.events) c.self.view_is in
    omega (arith, e, c.self.inside.log.ok.0)

at_place : goal.returns-clause-item
at_place c =
    let e : length c.self.inside.log.items ≡ length c.args.self.now.events =
    sym (length-items c.self.inside.entries c.self.inside.log.items)
    ∙ ap (λ (b : BookView). length b.events) c.self.view_is in
    let l : c.args.k < length c.self.inside.log.items = omega (arith, e) in
    let P : BookView → Type 0 = λ b. slice_get b.events c.args.k ≡ Some (item_of b.state.entries c.index.result.now) in
    subst P c.self.view_is (item-at c.self.inside.entries c.self.inside.log.items c.args.k c.index.result.now
    (slice_get_read c.self.inside.log.items (length c.self.inside.log.items) c.args.k c.index.result.now
    (λ i. length c.self.inside.log.items) l c.index.ensures))

pub returns-clause-item : goal.returns-clause-item
returns-clause-item c = at_place c

pub returns-clause-exact : goal.returns-clause-exact
returns-clause-exact c =
    let b = c.args.self.now in
    let exact : AreExact b.opening b.events = (let P : BookView → Type 0 = λ z. AreExact z.opening z.events in
    subst P c.self.view_is c.self.invariant.0.exact) in
    exact_at b.opening b.events c.args.k (item_of b.state.entries c.index.result.now) exact (at_place c)
