use Rattle.std.proofs.Common.{◌≡◌, suc, [], ◌∷◌, None, refl, sym, ap, ◌∙◌, subst, arith}
use Rattle.book_share.specs.Passes.{PassView}
use Rattle.book_share.specs.Steps.{Mine, missed, taken, given, IsHad}
use Rattle.book_share.specs.inner.Turning.{waited}
use Rattle.book_share.proofs.turns.take_waiting.Goals as goal

pub loop-init : goal.loop-init
loop-init g c = record { table = refl; waits = c.requires.seat.1; tries = omega arith }

pub take-requires-clause-seat : goal.take-requires-clause-seat
take-requires-clause-seat g c =
    let i = c.loop.invariant in
    (i.table ∙ c.requires.seat.0, i.waits ∙ ap (λ (m : Mine). (given m.0, [])) (sym i.waits))

pub returns-in-Some-take-clause-had : goal.returns-in-Some-take-clause-had
returns-in-Some-take-clause-had g c =
    let v = c.args.seat.now.me.0 in
    let u : PassView = c.loop.seat.me.0 in
    let w : u ≡ waited v u.tries u.met = ap (λ (m : Mine). m.0) c.loop.invariant.waits in
    let t = c.in-Some-take.ensures.some in (
      u.tries,
      u.met,
      c.loop.invariant.tries,
      t.0 ∙ ap (λ (x : PassView).
          (taken x c.in-Some-take.book.events, (0, None) ∷ [])) w,
      subst (λ (x : PassView). IsHad x c.in-Some-take.book) w t.1,
    )

pub loop-preserved : goal.loop-preserved
loop-preserved g c =
    let v = c.args.seat.now.me.0 in
    let u : PassView = c.loop.seat.me.0 in
    let w : u ≡ waited v u.tries u.met = ap (λ (m : Mine). m.0) c.loop.invariant.waits in
    let m = c.in-None-take.ensures.none in
    let is : c.pause.new.seat.me ≡ (waited v (suc u.tries) 1, []) =
    c.pause.ensures.me ∙ m ∙ ap (λ (x : PassView). (missed x, [])) w in
    let more : c.pause.new.seat.me.0.tries ≡ suc u.tries = ap (λ (x : Mine). x.0.tries) is in
    let low = c.loop.invariant.tries in
    record {
      table = c.pause.ensures.seat ∙ (c.take.ensures.seat ∙ c.loop.invariant.table);
      waits = is ∙ ap (λ (x : Mine). (waited v x.0.tries x.0.met, [])) (sym is);
      tries = omega arith;
    }
