use Rattle.book_share.specs.Passes.{desk_by}
use Rattle.book_share.specs.inner.Turning.{waited}
use Rattle.book_share.specs.inner.Inside.{IsResting}
use Rattle.book_share.proofs.CallFacts.{sound_of, after_look, waits_in}
use Rattle.book_share.proofs.MemoFacts.{was_memo}
use Rattle.book_share.proofs.pass.Share.look.Goals as goal

rests : (g : _) (c : goal.After-look g) → IsResting c.look.new.seat.me
rests g c =
    let h = c.take_waiting-book.ensures.had in
    after_look (waited c.pass.inside.seat.me.0 h.0 h.1) c.take_waiting-book.new.seat.me c.take_waiting-book.result h.4
    h.3 c.look.new.seat.me c.pass.invariant.0.rises c.look.ensures.me c.look.ensures.exact

pub invariant_of-pass : goal.invariant_of-pass
invariant_of-pass g c = (rests g c, c.look.ensures.memo)

pub returns-clause-sound : goal.returns-clause-sound
returns-clause-sound g c = sound_of c.look.new.seat.me (rests g c)

pub look-requires-clause-memo : goal.look-requires-clause-memo
look-requires-clause-memo g c =
    let h = c.take_waiting-book.ensures.had in
    let v = waited c.pass.inside.seat.me.0 h.0 h.1 in
    let m = c.take_waiting-book.new.seat.me in
    was_memo c.pass.inside.memo (desk_by v) (desk_by m.0) (waits_in v m c.take_waiting-book.result h.4 h.3).keeps
    c.pass.invariant.1
