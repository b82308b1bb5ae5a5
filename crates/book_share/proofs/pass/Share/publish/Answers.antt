use Rattle.std.proofs.Common.{subst, sym, rules}
use Rattle.lemma_core.specs.Desks.{FollowsSeen, Publishes}
use Rattle.book_share.specs.Passes.{PassOf, desk_by}
use Rattle.book_share.specs.inner.Turning.{waited}
use Rattle.book_share.proofs.Hands.{publishes_from}
use Rattle.book_share.proofs.CallFacts.{sound_of, holds, rises_in, waits_in, follows_in_turn}
use Rattle.book_share.proofs.MemoFacts.{was_memo}
use Rattle.book_share.proofs.pass.Share.publish.Goals as goal

pub publish-requires-clause-seat : goal.publish-requires-clause-seat
publish-requires-clause-seat g c =
    let h = c.take_waiting-book.ensures.had in
    let v = waited c.pass.inside.seat.me.0 h.0 h.1 in
    let m = c.take_waiting-book.new.seat.me in
    let b = c.take_waiting-book.result in
    (search rules, holds v m b h.4 h.3, rises_in v m b h.4 h.3 c.pass.invariant.0.rises)

pub publish-requires-clause-follows : goal.publish-requires-clause-follows
publish-requires-clause-follows g c =
    let h = c.take_waiting-book.ensures.had in
    let v = waited c.pass.inside.seat.me.0 h.0 h.1 in
    follows_in_turn v c.take_waiting-book.new.seat.me c.take_waiting-book.result h.4 h.3 c.args.step
    (subst (λ (p : PassOf). FollowsSeen (desk_by p.view) c.args.step) (sym c.pass.view_is) c.requires.follows)

pub returns-clause-publishes : goal.returns-clause-publishes
returns-clause-publishes g c =
    let h = c.take_waiting-book.ensures.had in
    let v = waited c.pass.inside.seat.me.0 h.0 h.1 in
    let m = c.take_waiting-book.new.seat.me in
    let w = c.publish.new.seat.me.0 in
    subst (λ (p : PassOf). Publishes (desk_by p.view) (desk_by w) c.args.step c.publish.result) c.pass.view_is
    (publishes_from v m.0 w c.args.step c.publish.result (waits_in v m c.take_waiting-book.result h.4 h.3)
    c.publish.ensures.publishes)

pub returns-clause-sound : goal.returns-clause-sound
returns-clause-sound g c = sound_of c.publish.new.seat.me c.publish.ensures.ends.resting

pub publish-requires-clause-memo : goal.publish-requires-clause-memo
publish-requires-clause-memo g c =
    let h = c.take_waiting-book.ensures.had in
    let v = waited c.pass.inside.seat.me.0 h.0 h.1 in
    let m = c.take_waiting-book.new.seat.me in
    was_memo c.pass.inside.memo (desk_by v) (desk_by m.0) (waits_in v m c.take_waiting-book.result h.4 h.3).keeps
    c.pass.invariant.1
