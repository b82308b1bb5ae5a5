use Rattle.std.proofs.Common.{subst, sym, rules, Option}
use Rattle.std.specs.Option.{IfSome}
use Rattle.lemma_core.specs.declared.types.Published.{Published}
use Rattle.lemma_core.specs.Desks.{FollowsSeen, Publishes}
use Rattle.book_share.specs.Passes.{PassOf, desk_by}
use Rattle.book_share.proofs.Hands.{publishes_from}
use Rattle.book_share.proofs.CallFacts.{sound_of, after_miss, holds, rises_in, waits_in, follows_in_turn}
use Rattle.book_share.proofs.MemoFacts.{was_memo}
use Rattle.book_share.proofs.pass.Share.try_publish.Goals as goal

pub returns-in_default-clause-sound : goal.returns-in_default-clause-sound
returns-in_default-clause-sound c = sound_of c.take.new.seat.me
    (after_miss c.pass.inside.seat.me c.take.new.seat.me c.pass.invariant.0 c.in_default.ensures.none)

pub publish-requires-clause-seat : goal.publish-requires-clause-seat
publish-requires-clause-seat c =
    let t = c.in-Some.ensures.some in
    let v = c.pass.inside.seat.me.0 in
    let m = c.take.new.seat.me in
    (search rules, holds v m c.in-Some.book t.1 t.0, rises_in v m c.in-Some.book t.1 t.0 c.pass.invariant.0.rises)

pub publish-requires-clause-follows : goal.publish-requires-clause-follows
publish-requires-clause-follows c =
    let t = c.in-Some.ensures.some in
    follows_in_turn c.pass.inside.seat.me.0 c.take.new.seat.me c.in-Some.book t.1 t.0 c.args.step
    (subst (λ (p : PassOf). FollowsSeen (desk_by p.view) c.args.step) (sym c.pass.view_is) c.requires.follows)

pub returns-clause-publishes : goal.returns-clause-publishes
returns-clause-publishes c =
    let t = c.in-Some.ensures.some in
    let v = c.pass.inside.seat.me.0 in
    let m = c.take.new.seat.me in
    let w = c.publish.new.seat.me.0 in
    subst (λ (o : Option Published). IfSome o (λ r. Publishes (desk_by c.args.pass.now.view) (desk_by w) c.args.step r))
    (sym c.of.ensures)
    (subst (λ (p : PassOf). Publishes (desk_by p.view) (desk_by w) c.args.step c.publish.result) c.pass.view_is
    (publishes_from v m.0 w c.args.step c.publish.result (waits_in v m c.in-Some.book t.1 t.0)
    c.publish.ensures.publishes))

pub returns-clause-sound : goal.returns-clause-sound
returns-clause-sound c = sound_of c.publish.new.seat.me c.publish.ensures.ends.resting

pub publish-requires-clause-memo : goal.publish-requires-clause-memo
publish-requires-clause-memo c =
    let t = c.in-Some.ensures.some in
    let v = c.pass.inside.seat.me.0 in
    let m = c.take.new.seat.me in
    was_memo c.pass.inside.memo (desk_by v) (desk_by m.0) (waits_in v m c.in-Some.book t.1 t.0).keeps
    c.pass.invariant.1
