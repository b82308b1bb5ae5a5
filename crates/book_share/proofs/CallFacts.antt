-- What a call promises, from what the parts of its turn tell.
use Rattle.std.proofs.Common.{◌≡◌, ℕ, [], ◌∷◌, length, refl, sym, ap, ◌∙◌, subst, None}
use Rattle.line_rules.specs.declared.types.Entry.{Entry}
use Rattle.lemma_core.specs.History.{AreExact}
use Rattle.lemma_core.specs.Books.{BookView}
use Rattle.lemma_core.specs.Desks.{FollowsSeen, Waits}
use Rattle.book_share.specs.Passes.{PassView, desk_by}
use Rattle.book_share.specs.Rule.{OwnRises, right_of}
use Rattle.book_share.specs.Steps.{Mine, missed, taken, given, loaded, IsHad}
use Rattle.book_share.specs.inner.Turning.{Holds}
use Rattle.book_share.specs.inner.Inside.{IsResting}
use Rattle.book_share.specs.Calls.{IsSound}
use Rattle.book_share.proofs.Hands.{waits_by, follows_by}
use Rattle.book_share.proofs.Lists.{rises_wider, rises_le, rises_at, are_own}
use Rattle.lemma_core.proofs.OwnFacts.{begins_longer}

-- what a resting seat knows is sound
pub sound_of : (m : Mine) → IsResting m → IsSound m.0
sound_of m r = record {
  own = are_own m.0.base.from m.0.seen m.0.own r.rises;
  from = λ k x e. (rises_at m.0.base.from m.0.own (length m.0.seen) k x r.rises e).0;
  exact = r.exact;
}

-- a seat rests after a load, after a try that found the turn held, and when it was cut off another
pub after_load : (m w : Mine) (n : ℕ) → IsResting m → w ≡ (loaded m.0 n, m.1) → IsResting w
after_load m w n r is = subst IsResting (sym (is ∙ ap (λ (x : Mine). (loaded m.0 n, x.1)) r.me))
    (record { me = refl; rises = r.rises; exact = r.exact })

pub after_miss : (m w : Mine) → IsResting m → w ≡ (missed m.0, []) → IsResting w
after_miss m w r is = subst IsResting (sym is) (record { me = refl; rises = r.rises; exact = r.exact })

pub cut_off : (m w : Mine) → IsResting m → w ≡ (right_of m.0, []) → IsResting w
cut_off m w r is = subst IsResting (sym is) (record {
  me = refl;
  rises = rises_le m.0.base.from m.0.own (length m.0.seen) r.rises;
  exact = r.exact;
})

-- a turn that was had, with the book b in hand
module _ (v : PassView) (m : Mine) (b : BookView) (had : IsHad v b) (is : m ≡ (taken v b.events, (0, None) ∷ [])) where
  pub holds : Holds m b
  holds = subst (λ (x : Mine). Holds x b) (sym is) (record { phase = refl; slot = refl; book = had.book })

  pub rises_in : OwnRises v → OwnRises m.0
  rises_in r = subst (λ (x : Mine). OwnRises x.0) (sym is) (rises_wider v.base.from v.own (length v.seen)
      (length b.events) (begins_longer v.seen b.events had.seen) r)

  pub waits_in : Waits (desk_by v) (desk_by m.0)
  waits_in = subst (λ (x : Mine). Waits (desk_by v) (desk_by x.0)) (sym is)
      (waits_by v (taken v b.events) refl refl had.seen)

  pub follows_in_turn : (e : Entry) → FollowsSeen (desk_by v) e → FollowsSeen (desk_by m.0) e
  follows_in_turn e f = subst (λ (x : Mine). FollowsSeen (desk_by x.0) e) (sym is)
      (follows_by v (taken v b.events) e refl refl had.seen f)

  -- the turn ends after a look
  pub after_look : (w : Mine) → OwnRises v → w ≡ (given m.0, []) → AreExact w.0.base.opening w.0.seen → IsResting w
  after_look w r gives exact = record {
    me = gives ∙ ap (λ (x : Mine). (given x.0, [])) (sym gives);
    rises = subst (λ (x : Mine). OwnRises x.0) (sym gives) (rises_in r);
    exact = exact;
  }
