use Rattle.std.proofs.Common.{◌≡◌, ℕ, [], ◌∷◌, ◌++◌, length, sym, ap, ◌∙◌, arith, subst, List, None}
use Rattle.line_rules.specs.Entries.{Follows}
use Rattle.line_rules.specs.declared.types.Entry.{Entry}
use Rattle.lemma_core.specs.declared.types.LogItem.{LogItem}
use Rattle.lemma_core.specs.declared.types.LogItem.TheVariants as log
use Rattle.lemma_core.specs.declared.types.Event.TheVariants as event
use Rattle.lemma_core.specs.declared.types.Reply.TheVariants as reply
use Rattle.lemma_core.specs.Machine.{last_answer, published}
use Rattle.lemma_core.specs.Books.{BookView, IsBook, ran}
use Rattle.std.proofs.lemmas.List.{map-append}
use Rattle.line_rules.specs.lines.Tags.{tag_of}
use Rattle.lemma_core.specs.inner.Chains.{IsIndexOf}
use Rattle.lemma_core.specs.inner.Inside.{book_of, IsLogged}
use Rattle.lemma_core.proofs.Logs.{added_is, added_logged, book_published}
use Rattle.lemma_core.proofs.book.Book.add.Goals as goal

pub invariant_of-self-2 : goal.invariant_of-self-2
invariant_of-self-2 c =
    let s = c.self.inside in
    let b : BookView = book_of s.instance s.kind s.cycle s.entries s.log.items s.best s.start s.opening s.room in
    let step = c.args.step in
    let f : Follows s.kind s.instance s.entries step = (let P : BookView
    → Type 0 = λ z. Follows z.about.kind z.about.line z.state.entries step in
    subst P (sym c.self.view_is) c.requires.follows) in
    let g : last_answer s.entries step.set step.most step.cycle ≡ None =
    (let P : BookView → Type 0 = λ z. last_answer z.state.entries step.set step.most step.cycle ≡ None in
    subst P (sym c.self.view_is) c.requires.unanswered) in
    let k : IsBook (book_of s.instance s.kind s.cycle (s.entries ++ step ∷ [])
    (s.log.items ++ log.Added (length s.entries) ∷ []) s.best s.start s.opening s.room) =
    (let Q : BookView → Type 0 = λ z. IsBook z in subst Q (sym
    (added_is s.instance s.kind s.cycle s.entries s.log.items s.best s.start s.opening s.room step g
    c.self.invariant.1)) (book_published b step c.self.invariant.0 f c.requires.range)) in
    let P : List Entry → List LogItem → Type 0 = λ es ls. IsBook
    (book_of s.instance s.kind s.cycle es ls s.best s.start s.opening s.room) × IsLogged es ls s.start in
    let ls : c.push_reserved.new.self.items ≡ s.log.items ++ log.Added (length s.entries) ∷ [] =
    c.push_reserved.ensures.items ∙ (λ i. c.reserve.ensures.items i ++ log.Added (c.len-id.ensures i) ∷ []) in
    let both : P c.push.new.self c.push_reserved.new.self.items =
    (let R : List LogItem → Type 0 = λ z. P c.push.new.self z in let T : List Entry
    → Type 0 = λ z. P z (s.log.items ++ log.Added (length s.entries) ∷ []) in
    subst R (sym ls) (subst T (sym c.in-Ok-push.ensures.ok) (
      k,
      added_logged s.instance s.kind s.cycle s.entries s.log.items s.best s.start s.opening s.room step
          c.self.invariant.1,
    ))) in
    let index : IsIndexOf (s.entries ++ step ∷ []) c.add.new.self.heads.items c.add.new.self.links.items
    c.add.new.self.sieve.items = record {
      index = c.add.ensures.index;
      same = c.add.ensures.tags ∙ ((λ i. (c.reserve-2.ensures.tags ∙ c.self.invariant.3.same) i
          ++ c.tag-tag.ensures i ∷ []) ∙ sym (map-append (λ (e : Entry). tag_of e.set) s.entries (step ∷ [])));
    } in
    let U : List Entry → Type 0 = λ z. IsIndexOf z c.add.new.self.heads.items c.add.new.self.links.items
    c.add.new.self.sieve.items in (
      both.0,
      both.1,
      omega (
        arith,
        c.push_reserved.ensures.len,
        c.push_reserved.ensures.capacity,
        c.reserve.ensures.len,
        c.in-Ok.ensures.ok,
      ),
      subst U (sym c.in-Ok-push.ensures.ok) index,
    )

pub returns : goal.returns
returns c =
    let s = c.self.inside in
    let step = c.args.step in
    let g : last_answer s.entries step.set step.most step.cycle ≡ None =
    (let P : BookView → Type 0 = λ z. last_answer z.state.entries step.set step.most step.cycle ≡ None in
    subst P (sym c.self.view_is) c.requires.unanswered) in
    let ls : c.push_reserved.new.self.items ≡ s.log.items ++ log.Added (length s.entries) ∷ [] =
    c.push_reserved.ensures.items ∙ (λ i. c.reserve.ensures.items i ++ log.Added (c.len-id.ensures i) ∷ []) in
    let n : c.len-id.result ≡ length c.args.self.now.state.entries =
    c.len-id.ensures ∙ ap (λ (z : BookView). length z.state.entries) c.self.view_is in (
      ap (λ o. published c.args.self.now.state.entries o) c.requires.unanswered ∙ ap (λ (m : ℕ). reply.Added m) (sym n),
      (λ i. book_of s.instance s.kind s.cycle (c.in-Ok-push.ensures.ok i) (ls i) s.best s.start s.opening s.room)
          ∙ (added_is s.instance s.kind s.cycle s.entries s.log.items s.best s.start s.opening s.room step g
          c.self.invariant.1 ∙ ap (λ (z : BookView). ran z (event.Publish step ∷ [])) c.self.view_is),
    )
