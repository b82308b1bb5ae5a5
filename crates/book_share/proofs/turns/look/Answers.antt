use Rattle.std.proofs.Common.{sym, subst}
use Rattle.lemma_core.specs.Books.{BookView}
use Rattle.lemma_core.specs.Desks.{entries, HasDerived, Finds}
use Rattle.book_share.specs.Passes.{desk_by}
use Rattle.book_share.specs.Rule.{IsFor}
use Rattle.book_share.specs.Steps.{Mine, given}
use Rattle.book_share.proofs.Hands.{finds_by, derived_by}
use Rattle.lemma_core.specs.Books.{desk_of}
use Rattle.lemma_core.proofs.HistoryGrows.{keeps_none}
use Rattle.book_share.specs.inner.Turning.{Holds}
use Rattle.book_share.proofs.MemoFacts.{behind, memo_still}
use Rattle.book_share.proofs.turns.look.Goals as goal

pub returns-clause-finds : goal.returns-clause-finds
returns-clause-finds c =
    let v = c.args.seat.now.me.0 in
    let b : BookView = c.look-looked.new.self in
    let is : IsFor v.base v.seen b = subst (λ (x : BookView). IsFor v.base v.seen x) (sym c.look-looked.ensures.same)
    c.requires.seat.1.book in
    subst (λ (m : Mine). Finds (entries (desk_by m.0)) c.args.set.now c.args.most m.0.base.about.cycle
    c.look-looked.result) (sym c.give.ensures.me)
    (finds_by (given v) b c.args.set.now c.args.most c.look-looked.result is c.look-looked.ensures.finds)

pub returns-clause-derived : goal.returns-clause-derived
returns-clause-derived c =
    let v = c.args.seat.now.me.0 in
    let b : BookView = c.look-looked.new.self in
    let is : IsFor v.base v.seen b = subst (λ (x : BookView). IsFor v.base v.seen x) (sym c.look-looked.ensures.same)
    c.requires.seat.1.book in
    subst (λ (m : Mine). HasDerived (desk_by m.0)) (sym c.give.ensures.me)
    (derived_by (given v) b is c.look-looked.ensures.derived)

pub catch_up-requires : goal.catch_up-requires
catch_up-requires c =
    let b : BookView = c.look-looked.new.self in
    behind c.args.memo.now c.args.seat.now.me.0 b b (subst (λ (x : BookView). Holds c.args.seat.now.me x)
    (sym c.look-looked.ensures.same) c.requires.seat.1).book (keeps_none (desk_of b))
    c.log_len-exact.ensures.replays c.requires.memo

pub returns-clause-memo : goal.returns-clause-memo
returns-clause-memo c =
    memo_still c.catch_up.new.memo c.args.seat.now.me c.give.new.seat.me c.look-looked.new.self
    (subst (λ (x : BookView). Holds c.args.seat.now.me x) (sym c.look-looked.ensures.same) c.requires.seat.1)
    c.log_len-exact.ensures.replays c.catch_up.ensures c.give.ensures.me
