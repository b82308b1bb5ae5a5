use Rattle.std.proofs.Common.{Option, sym, subst}
use Rattle.lemma_core.specs.Books.{BookView, desk_of}
use Rattle.book_share.proofs.MemoFacts.{behind, memo_still, memo_but}
use Rattle.lemma_core.proofs.HistoryGrows.{keeps_none}
use Rattle.lemma_core.specs.Desks.{HasDerived}
use Rattle.lemma_core.specs.declared.types.Published.{Published}
use Rattle.book_share.specs.declared.memo.Memo.{Memo}
use Rattle.book_share.specs.inner.Memo.{IsMemoBut}
use Rattle.book_share.specs.Passes.{desk_by}
use Rattle.book_share.specs.Steps.{Mine, given}
use Rattle.book_share.specs.inner.Turning.{Holds}
use Rattle.book_share.proofs.Hands.{published_new, turn_publishes, has_same, derived_by}
use Rattle.book_share.proofs.turns.publish_in_turn.Goals as goal

pub give_published-requires : goal.give_published-requires
give_published-requires c = record {
  sized = c.requires.sized;
  seat = c.requires.seat.0;
  new = published_new c.args.seat.now.me c.args.book c.publish-published.new.self c.args.step c.publish-published.result
      c.requires.seat.1 c.publish-published.ensures.publishes c.in_default.not-NoMemory;
}

pub returns-in-NoMemory-clause-derived : goal.returns-in-NoMemory-clause-derived
returns-in-NoMemory-clause-derived c =
    let m : Mine = c.args.seat.now.me in
    let b : BookView = c.publish-published.new.self in
    let h : Holds m b = has_same m c.args.book b c.requires.seat.1 c.in-NoMemory.ensures.publishes in
    subst (λ (x : Mine). HasDerived (desk_by x.0)) (sym c.give.ensures.me)
    (derived_by (given m.0) b h.book c.publish-published.ensures.derived)

pub catch_up-requires : goal.catch_up-requires
catch_up-requires c =
    let b : BookView = c.args.book in
    behind c.args.memo.now c.args.seat.now.me.0 b b c.requires.seat.1.book (keeps_none (desk_of b))
    c.log_len-before.ensures.replays c.requires.memo

pub returns-in-NoMemory-clause-memo : goal.returns-in-NoMemory-clause-memo
returns-in-NoMemory-clause-memo c =
    let m : Option Memo = c.catch_up.new.memo in
    subst (λ (r : Published). IsMemoBut m (desk_by c.give.new.seat.me.0) c.args.step r) (sym c.in-NoMemory.is)
    (memo_still m c.args.seat.now.me c.give.new.seat.me c.args.book c.requires.seat.1 c.log_len-before.ensures.replays
    c.catch_up.ensures c.give.ensures.me)

pub returns-in_default : goal.returns-in_default
returns-in_default c =
    let b : BookView = c.args.book in
    let b' : BookView = c.publish-published.new.self in
    let t = turn_publishes c.args.seat.now.me c.give_published.new.seat.me c.args.book c.publish-published.new.self
    c.args.step c.publish-published.result c.requires.seat.1 c.requires.seat.2 c.publish-published.ensures.publishes
    c.in_default.not-NoMemory c.publish-published.ensures.derived c.log_len-exact.ensures.exact
    c.give_published.ensures.me in
    record {
      seat = c.give_published.ensures.seat;
      ends = t.ends;
      publishes = t.publishes;
      derived = t.derived;
      memo = memo_but c.catch_up.new.memo c.args.seat.now.me c.give_published.new.seat.me b b' c.args.step
          c.publish-published.result c.len-grown.result c.requires.seat.1 c.log_len-before.ensures.replays
          c.catch_up.ensures c.publish-published.ensures.publishes c.in_default.not-NoMemory c.len-grown.ensures.len
          c.len-grown.type_inv c.log_len-exact.ensures.replays t.derived c.give_published.ensures.me;
    }
