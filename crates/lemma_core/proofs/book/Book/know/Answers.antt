use Rattle.std.proofs.Common.{◌≡◌, [], ◌∷◌, ◌++◌, sym, ap, ◌∙◌, arith, subst, List, Some}
use Rattle.line_rules.specs.Entries.{Follows}
use Rattle.lemma_core.specs.declared.types.LogItem.{LogItem}
use Rattle.lemma_core.specs.declared.types.LogItem.TheVariants as log
use Rattle.lemma_core.specs.declared.types.Event.TheVariants as event
use Rattle.lemma_core.specs.Machine.{last_answer, published}
use Rattle.lemma_core.specs.Books.{BookView, IsBook, ran}
use Rattle.lemma_core.specs.inner.Inside.{book_of, IsLogged}
use Rattle.lemma_core.proofs.Logs.{known_is, known_logged, book_published}
use Rattle.lemma_core.proofs.book.Book.know.Goals as goal

pub invariant_of-self-2 : goal.invariant_of-self-2
invariant_of-self-2 c =
    let s = c.self.inside in
    let b : BookView = book_of s.instance s.kind s.cycle s.entries s.log.items s.best s.start s.opening s.room in
    let step = c.args.step in
    let f : Follows s.kind s.instance s.entries step = (let P : BookView
    → Type 0 = λ z. Follows z.about.kind z.about.line z.state.entries step in
    subst P (sym c.self.view_is) c.requires.follows) in
    let g : last_answer s.entries step.set step.most step.cycle ≡ Some c.args.id =
    (let P : BookView → Type 0 = λ z. last_answer z.state.entries step.set step.most step.cycle ≡ Some c.args.id in
    subst P (sym c.self.view_is) c.requires.known) in
    let k : IsBook (book_of s.instance s.kind s.cycle s.entries (s.log.items ++ log.Known c.args.id step.most ∷ [])
    s.best s.start s.opening s.room) =
    (let Q : BookView → Type 0 = λ z. IsBook z in subst Q (sym
    (known_is s.instance s.kind s.cycle s.entries s.log.items s.best s.start s.opening s.room step c.args.id g))
    (book_published b step c.self.invariant.0 f c.requires.range)) in
    let P : List LogItem → Type 0 = λ ls. IsBook (book_of s.instance s.kind s.cycle s.entries ls s.best s.start
    s.opening s.room) × IsLogged s.entries ls s.start in
    let ls : c.push_reserved.new.self.items ≡ s.log.items ++ log.Known c.args.id step.most ∷ [] =
    c.push_reserved.ensures.items ∙ ap (λ (xs : List LogItem). xs ++ log.Known c.args.id step.most ∷ [])
    c.reserve.ensures.items in
    let both : P c.push_reserved.new.self.items = subst P (sym ls) (
      k,
      known_logged s.instance s.kind s.cycle s.entries s.log.items s.best s.start s.opening s.room c.args.id
          step.most c.self.invariant.1,
    ) in (
      both.0,
      both.1,
      omega (
        arith,
        c.push_reserved.ensures.len,
        c.push_reserved.ensures.capacity,
        c.reserve.ensures.len,
        c.in-Ok.ensures.ok,
      ),
      c.self.invariant.3,
    )

pub returns : goal.returns
returns c =
    let s = c.self.inside in
    let step = c.args.step in
    let g : last_answer s.entries step.set step.most step.cycle ≡ Some c.args.id =
    (let P : BookView → Type 0 = λ z. last_answer z.state.entries step.set step.most step.cycle ≡ Some c.args.id in
    subst P (sym c.self.view_is) c.requires.known) in
    let ls : c.push_reserved.new.self.items ≡ s.log.items ++ log.Known c.args.id step.most ∷ [] =
    c.push_reserved.ensures.items ∙ ap (λ (xs : List LogItem). xs ++ log.Known c.args.id step.most ∷ [])
    c.reserve.ensures.items in (
      ap (λ o. published c.args.self.now.state.entries o) c.requires.known,
      ap (λ (xs : List LogItem). book_of s.instance s.kind s.cycle s.entries xs s.best s.start s.opening s.room) ls
          ∙ (known_is s.instance s.kind s.cycle s.entries s.log.items s.best s.start s.opening s.room step c.args.id g
          ∙ ap (λ (z : BookView). ran z (event.Publish step ∷ [])) c.self.view_is),
    )
