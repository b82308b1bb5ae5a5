use Rattle.book_share.specs.Passes.{desk_by}
use Rattle.book_share.proofs.CallFacts.{after_look, waits_in}
use Rattle.book_share.proofs.MemoFacts.{was_memo}
use Rattle.book_share.proofs.tests.meets_a_held_turn.Goals as goal

pub look-requires-clause-memo : goal.look-requires-clause-memo
look-requires-clause-memo c =
    let t = c.in-Some.ensures.some in
    let v = c.other.inside.seat.me.0 in
    let m = c.take.new.seat.me in
    was_memo c.other.inside.memo (desk_by v) (desk_by m.0) (waits_in v m c.in-Some.book t.1 t.0).keeps
    c.other.invariant.1

pub invariant_of-other-2 : goal.invariant_of-other-2
invariant_of-other-2 c =
    let t = c.in-Some.ensures.some in (
      after_look c.other.inside.seat.me.0 c.take.new.seat.me c.in-Some.book t.1 t.0 c.look.new.seat.me
          c.other.invariant.0.rises c.look.ensures.me c.look.ensures.exact,
      c.look.ensures.memo,
    )
