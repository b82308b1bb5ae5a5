use Rattle.std.proofs.Common.{subst, rules}
use Rattle.lemma_core.specs.Desks.{Offers}
use Rattle.book_share.specs.Passes.{PassOf, desk_by}
use Rattle.book_share.specs.inner.Turning.{waited}
use Rattle.book_share.proofs.Hands.{offers_from}
use Rattle.book_share.proofs.CallFacts.{sound_of, holds, rises_in, waits_in}
use Rattle.book_share.proofs.MemoFacts.{was_memo}
use Rattle.book_share.proofs.pass.Share.offer.Goals as goal

pub offer-requires-clause-seat : goal.offer-requires-clause-seat
offer-requires-clause-seat g c =
    let h = c.take_waiting-book.ensures.had in
    let v = waited c.pass.inside.seat.me.0 h.0 h.1 in
    let m = c.take_waiting-book.new.seat.me in
    let b = c.take_waiting-book.result in
    (search rules, holds v m b h.4 h.3, rises_in v m b h.4 h.3 c.pass.invariant.0.rises)

pub returns-clause-offers : goal.returns-clause-offers
returns-clause-offers g c =
    let h = c.take_waiting-book.ensures.had in
    let v = waited c.pass.inside.seat.me.0 h.0 h.1 in
    let m = c.take_waiting-book.new.seat.me in
    let w = c.offer.new.seat.me.0 in
    subst (λ (p : PassOf). Offers (desk_by p.view) (desk_by w) c.args.balance.stations c.offer.result) c.pass.view_is
    (offers_from v m.0 w c.args.balance.stations c.offer.result (waits_in v m c.take_waiting-book.result h.4 h.3)
    c.offer.ensures.offers)

pub returns-clause-sound : goal.returns-clause-sound
returns-clause-sound g c = sound_of c.offer.new.seat.me c.offer.ensures.ends.resting

pub offer-requires-clause-memo : goal.offer-requires-clause-memo
offer-requires-clause-memo g c =
    let h = c.take_waiting-book.ensures.had in
    let v = waited c.pass.inside.seat.me.0 h.0 h.1 in
    let m = c.take_waiting-book.new.seat.me in
    was_memo c.pass.inside.memo (desk_by v) (desk_by m.0) (waits_in v m c.take_waiting-book.result h.4 h.3).keeps
    c.pass.invariant.1
