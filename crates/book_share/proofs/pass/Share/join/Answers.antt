use Rattle.std.proofs.Common.{◌≡◌, [], Option, refl, sym, ap, ◌∙◌, subst, arith, rules}
use Rattle.lemma_core.specs.History.{AreExact}
use Rattle.book_share.specs.Places.{times}
use Rattle.book_share.specs.Rule.{both_of, OwnRises}
use Rattle.book_share.specs.Steps.{Mine, IsJoined}
use Rattle.book_share.specs.inner.Inside.{IsResting}
use Rattle.book_share.proofs.SplitFacts.{joins}
use Rattle.book_share.proofs.LoadSteps.{settles}
use Rattle.book_share.proofs.Lists.{rises_once, times_merged}
use Rattle.book_share.proofs.CallFacts.{sound_of}
use Rattle.book_share.specs.declared.memo.Memo.{Memo}
use Rattle.book_share.specs.inner.Memo.{IsMemoBy}
use Rattle.book_share.specs.Passes.{PassView, PassOf, desk_by}
use Rattle.book_share.proofs.pass.Share.join.Goals as goal

pub join_seat-requires : goal.join_seat-requires
join_seat-requires c =
    let p = c.pass.inside.seat in
    let q = c.other.inside.seat in (
      search rules,
      search rules,
      ap (λ (m : Mine). m.1) c.other.invariant.0.me,
      search rules,
      joins p.id q.id p.me.0 q.me.0 (ap (λ (m : Mine). m.0.phase) c.pass.invariant.0.me)
          (ap (λ (m : Mine). m.0.phase) c.other.invariant.0.me),
    )

pub load-requires : goal.load-requires
load-requires c =
    let n = c.self.inside.table.shared.table_id.slots in
    let seat = c.join_seat.new.seat in (
      search rules,
      search rules,
      settles n seat.id seat.me.0 seat.me.1
          (ap (λ (m : Mine). m.0.phase) c.join_seat.ensures.2),
    )

-- what the pass knows after the load
joined : (m w : Mine) (v u : PassView) → w ≡ m → m ≡ (both_of v u, []) → IsJoined m.0 → IsResting w
joined m w v u same is ok = subst IsResting (sym (same ∙ is)) (record {
  me = refl;
  rises = subst (λ (x : Mine). OwnRises x.0) is ok.rises;
  exact = subst (λ (x : Mine). AreExact x.0.base.opening x.0.seen) is ok.exact;
})

pub invariant_of-pass : goal.invariant_of-pass
invariant_of-pass c =
    let rests : IsResting c.load.new.seat.me = joined c.join_seat.new.seat.me c.load.new.seat.me c.pass.inside.seat.me.0
    c.other.inside.seat.me.0 c.load.ensures.2.0
    (c.join_seat.ensures.2 ∙ ap (λ (m : Mine). (both_of c.pass.inside.seat.me.0 c.other.inside.seat.me.0, m.1))
    c.pass.invariant.0.me) c.load.ensures.2.1 in (
      rests,
      subst (λ (m : Option Memo). IsMemoBy m (desk_by c.load.new.seat.me.0)) (sym c.forget.ensures) tt,
    )

pub returns-clause-apart : goal.returns-clause-apart
returns-clause-apart c x =
    let v = c.pass.inside.seat.me.0 in
    let u = c.other.inside.seat.me.0 in
    let sound : IsJoined (both_of v u) = subst (λ (m : Mine). IsJoined m.0) c.join_seat.ensures.2 c.load.ensures.2.1 in
    let e : times x c.args.pass.now.view.own ≡ times x v.own =
    ap (λ (p : PassOf). times x p.view.own) (sym c.pass.view_is) in
    let f : times x c.args.other.view.own ≡ times x u.own =
    ap (λ (p : PassOf). times x p.view.own) (sym c.other.view_is) in
    omega (arith, e, f, times_merged x v.own u.own, rises_once _ _ _ x sound.rises)

pub returns-clause-sound : goal.returns-clause-sound
returns-clause-sound c =
    let rests : IsResting c.load.new.seat.me = joined c.join_seat.new.seat.me c.load.new.seat.me c.pass.inside.seat.me.0
    c.other.inside.seat.me.0 c.load.ensures.2.0
    (c.join_seat.ensures.2 ∙ ap (λ (m : Mine). (both_of c.pass.inside.seat.me.0 c.other.inside.seat.me.0, m.1))
    c.pass.invariant.0.me) c.load.ensures.2.1 in
    sound_of c.load.new.seat.me rests
