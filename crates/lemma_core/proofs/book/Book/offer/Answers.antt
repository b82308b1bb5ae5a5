use Rattle.std.proofs.Common.{◌-◌, [], ◌∷◌, ◌++◌, sym, ap, ◌∙◌, arith, subst, List}
use Rattle.line_rules.specs.Balance.{IsRight}
use Rattle.lemma_core.specs.declared.types.LogItem.{LogItem}
use Rattle.lemma_core.specs.declared.types.LogItem.TheVariants as log
use Rattle.lemma_core.specs.declared.types.Event.TheVariants as event
use Rattle.lemma_core.specs.Books.{BookView, IsBook, IsReserved, ran}
use Rattle.lemma_core.specs.inner.Inside.{book_of, IsLogged}
use Rattle.lemma_core.proofs.Logs.{better_is, offered_logged, reserved_ran, book_offered}
use Rattle.lemma_core.proofs.book.Book.offer.Goals as goal

pub invariant_of-self : goal.invariant_of-self
invariant_of-self c =
    let s = c.self.inside in
    let b : BookView = book_of s.instance s.kind s.cycle s.entries s.log.items s.best s.start s.opening s.room in
    let r : IsReserved b = (let P : BookView → Type 0 = λ z. IsReserved z in
    subst P (sym c.self.view_is) c.requires.reserved) in
    let q : IsRight s.kind s.instance s.cycle c.args.balance =
    (let P : BookView → Type 0 = λ z. IsRight z.about.kind z.about.line z.about.cycle c.args.balance in
    subst P (sym c.self.view_is) c.requires.right) in
    let P : List LogItem → Type 0 = λ ls. IsBook (book_of s.instance s.kind s.cycle s.entries ls c.args.balance s.start
    s.opening (s.room - 1)) × IsLogged s.entries ls s.start in
    let k : IsBook (book_of s.instance s.kind s.cycle s.entries
    (s.log.items ++ log.Offered c.args.balance.stations ∷ []) c.args.balance s.start s.opening (s.room - 1)) =
    (let Q : BookView → Type 0 = λ z. IsBook z in subst Q (sym
    (better_is s.instance s.kind s.cycle s.entries s.log.items s.best s.start s.opening s.room c.args.balance
    c.if-balance-self.false)) (book_offered b c.args.balance c.self.invariant.0 q)) in
    let both : P c.push_reserved.new.self.items = subst P (sym c.push_reserved.ensures.items) (
      k,
      offered_logged s.instance s.kind s.cycle s.entries s.log.items s.best s.start s.opening s.room
          c.args.balance.stations c.self.invariant.1,
    ) in (
      both.0,
      both.1,
      omega (
        arith,
        c.self.invariant.0.fewer,
        r,
        c.self.invariant.2,
        c.push_reserved.ensures.len,
        c.push_reserved.ensures.capacity,
      ),
      c.self.invariant.3,
    )

ran_offer : goal.returns-clause-ran
ran_offer c =
    let s = c.self.inside in
    ap (λ (ls : List LogItem). book_of s.instance s.kind s.cycle s.entries ls c.args.balance s.start s.opening
    (s.room - 1)) c.push_reserved.ensures.items
    ∙ (better_is s.instance s.kind s.cycle s.entries s.log.items s.best s.start s.opening s.room c.args.balance
    c.if-balance-self.false
    ∙ ap (λ (z : BookView). ran z (event.Offer c.args.balance ∷ [])) c.self.view_is)

pub returns-clause-ran : goal.returns-clause-ran
returns-clause-ran c = ran_offer c

pub returns-clause-reserved : goal.returns-clause-reserved
returns-clause-reserved c =
    let P : BookView → Type 0 = λ z. IsReserved z in
    subst P (sym (ran_offer c)) (reserved_ran c.args.self.now (event.Offer c.args.balance ∷ []) c.requires.reserved)
