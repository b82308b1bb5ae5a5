use Rattle.book_share.proofs.CallFacts.{sound_of, after_look, after_miss, waits_in}
use Rattle.book_share.specs.Passes.{desk_by}
use Rattle.book_share.proofs.MemoFacts.{was_memo}
use Rattle.book_share.proofs.pass.Share.try_look.Goals as goal

pub returns-in_default-clause-sound : goal.returns-in_default-clause-sound
returns-in_default-clause-sound c = sound_of c.take.new.seat.me
    (after_miss c.pass.inside.seat.me c.take.new.seat.me c.pass.invariant.0 c.in_default.ensures.none)

pub invariant_of-pass-2 : goal.invariant_of-pass-2
invariant_of-pass-2 c =
    let t = c.in-Some.ensures.some in (
      after_look c.pass.inside.seat.me.0 c.take.new.seat.me c.in-Some.book t.1 t.0 c.look.new.seat.me
          c.pass.invariant.0.rises c.look.ensures.me c.look.ensures.exact,
      c.look.ensures.memo,
    )

pub returns-clause-sound : goal.returns-clause-sound
returns-clause-sound c =
    let t = c.in-Some.ensures.some in
    sound_of c.look.new.seat.me (after_look c.pass.inside.seat.me.0 c.take.new.seat.me c.in-Some.book t.1 t.0
    c.look.new.seat.me c.pass.invariant.0.rises c.look.ensures.me c.look.ensures.exact)

pub look-requires-clause-memo : goal.look-requires-clause-memo
look-requires-clause-memo c =
    let t = c.in-Some.ensures.some in
    let v = c.pass.inside.seat.me.0 in
    let m = c.take.new.seat.me in
    was_memo c.pass.inside.memo (desk_by v) (desk_by m.0) (waits_in v m c.in-Some.book t.1 t.0).keeps
    c.pass.invariant.1
