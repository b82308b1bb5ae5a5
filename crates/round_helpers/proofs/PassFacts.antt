-- Passes split off for helpers, each with its hand, and joined again one by one.
use Rattle.std.proofs.Common.{◌≡◌, ℕ, ◌+◌, ◌-◌, ◌<◌, ◌≤◌, List, [], ◌∷◌, ◌++◌, length, length-append, refl, sym, ap}
use Rattle.std.proofs.Common.{◌∙◌, subst, inl, inr, arith, append_assoc, Some, cond}
use Rattle.std.specs.Prelude.{slice_get, nat_lt}
use Rattle.std.proofs.lemmas.Bool.Decides.{nat_tests}
use Rattle.std.proofs.lemmas.List.{append-nil}
use Rattle.std.proofs.lemmas.Option.{same_Some}
use Rattle.atomic_table.specs.Seated.{TableId}
use Rattle.line_instance.specs.Line.{Line}
use Rattle.line_rules.proofs.ListFacts.{get_push_cases, get_last, get_longer}
use Rattle.lemma_core.specs.History.{Item, Begins, AreOwn}
use Rattle.lemma_core.specs.Own.{AreAt}
use Rattle.book_share.specs.Calls.{IsPassOf, IsSound}
use Rattle.book_share.specs.Passes.{Base, PassView, PassOf}
use Rattle.book_share.specs.Rule.{left_of, right_of, both_of}
use Rattle.book_share.proofs.Lists.{begins_refl}
use Rattle.station_search.specs.declared.answers.Units.{Units}
use Rattle.steal_pool.specs.Hands.{HandView}
use Rattle.round_helpers.specs.inner.Seats.{IsBare, IsReady, AreReady, HasAdded, HasJoined, used_by}
use Rattle.round_helpers.specs.inner.Teams.{AreJoinable}
use Rattle.round_helpers.specs.declared.teams.Helper.{Helper}
use Rattle.round_helpers.proofs.MixedItems.{added_joined}
use Rattle.lemma_core.proofs.HistoryGrows.{begins_on}

less_part : (n : ℕ) → 2 ≤ n → cond {A = ℕ} (nat_lt 1 n) (n - 1) 0 ≡ n - 1
less_part n l = grind (arith, nat_tests, l)

one_part : (n : ℕ) → 2 ≤ n → cond {A = ℕ} (nat_lt 1 n) 1 0 ≡ 1
one_part n l = grind (arith, nat_tests, l)

-- a bare pass stays bare when another one is split off, which is bare too
pub bare_left : (share : TableId) (base : Base) (seen : List Item) (n : ℕ) (p q : PassOf) → 2 ≤ n
    → IsBare share base seen n p → IsPassOf share q → q.view ≡ left_of p.view
    → IsBare share base seen (n - 1) q
bare_left share base seen n p q l b of e = record {
  pass = of;
  same = ap (λ (z : PassView). z.base) e ∙ b.same;
  none = ap (λ (z : PassView). z.own) e ∙ b.none;
  history = ap (λ (z : PassView). z.seen) e ∙ b.history;
  part = ap (λ (z : PassView). z.parts) e
      ∙ (ap (λ (z : ℕ). cond {A = ℕ} (nat_lt 1 z) (z - 1) 0) b.part ∙ less_part n l);
}

pub bare_right : (share : TableId) (base : Base) (seen : List Item) (n : ℕ) (p q : PassOf) → 2 ≤ n
    → IsBare share base seen n p → IsPassOf share q → q.view ≡ right_of p.view
    → IsBare share base seen 1 q
bare_right share base seen n p q l b of e = record {
  pass = of;
  same = ap (λ (z : PassView). z.base) e ∙ b.same;
  none = ap (λ (z : PassView). z.own) e;
  history = ap (λ (z : PassView). z.seen) e ∙ b.history;
  part = ap (λ (z : PassView). z.parts) e ∙ (ap (λ (z : ℕ). cond {A = ℕ} (nat_lt 1 z) 1 0) b.part ∙ one_part n l);
}

-- one helper more is ready
ready_push : (share : TableId) (base : Base) (seen : List Item) (us : List Units) (hands : List HandView)
    (hs all : List Helper) (h : Helper) → AreReady share base seen us hands hs → all ≡ hs ++ h ∷ []
    → ((u : Units) (v : HandView) → slice_get us (length hs) ≡ Some u → slice_get hands (length hs) ≡ Some v
    → IsReady share base seen u.left v h)
    → AreReady share base seen us hands all
ready_push share base seen us hands hs all h ready e last k x u v g f i =
    let P : List Helper → Type 0 = λ z. slice_get z k ≡ Some x in
    elim (get_push_cases hs h x k (subst P e g)) [
      | inl y ↦ ready k x u v y.1 f i
      | inr y ↦
          let R : Helper → Type 0 = λ z. IsReady share base seen u.left v z in
          subst R y.1 (last u v (sym (ap (λ (z : ℕ). slice_get us z) y.0) ∙ f)
          (sym (ap (λ (z : ℕ). slice_get hands z) y.0) ∙ i))
    ]

used_push : (hs : List Helper) (h : Helper) → used_by (hs ++ h ∷ []) ≡ used_by hs + h.units.used
used_push [] h = omega arith
used_push (x ∷ hs) h = omega (arith, used_push hs h)

-- A pass with the passes of some helpers joined into it, and the helpers that are left.
pub record IsJoining (share : TableId) (first : PassOf) (all left : List Helper) (now : PassOf) : Type 0 where
  pub done : List Helper
  pub whole : done ++ left ≡ all
  pub pass : IsPassOf share now
  pub joined : (line : Line) (X : ℕ) → AreJoinable first.view.base first.view.seen line X all
      → HasJoined share first.view.base first.view.seen first.view.parts line X done now

pub joins_none : (share : TableId) (first : PassOf) (all : List Helper) → IsPassOf share first
    → first.view.own ≡ [] → IsJoining share first all all first
joins_none share first all of none = record {
  done = [];
  whole = refl;
  pass = of;
  joined = λ line X j. record {
    pass = of;
    same = refl;
    part = omega arith;
    begins = begins_refl first.view.seen;
    own = subst (λ (z : List ℕ). AreOwn first.view.seen z) (sym none) (record {
      rises = λ k a b x y. absurd (cc);
      within = λ k a x. absurd (cc);
    });
    behind = λ k x g.
        let f : slice_get [] k ≡ Some x = sym (ap (λ (z : List ℕ). slice_get z k) none) ∙ g in absurd (cc);
    added = record {
      items = [];
      there = subst (λ (z : List ℕ). AreAt first.view.seen z []) (sym none) tt;
      cycles = λ k e g. absurd (cc);
      few = omega arith;
      published = 0;
      units = refl;
      within = omega arith;
    };
    each = λ k h e. absurd (cc);
  };
}

-- the next helper is one of all
pub joins_next : (share : TableId) (first : PassOf) (all left : List Helper) (h : Helper) (p : PassOf)
    → IsJoining share first all (h ∷ left) p → (k : ℕ) × (slice_get all k ≡ Some h)
joins_next share first all left h p j =
    let whole : (j.done ++ h ∷ []) ++ left ≡ all = append_assoc j.done (h ∷ []) left ∙ j.whole in (
      length j.done,
      sym (ap (λ (z : List Helper). slice_get z (length j.done)) whole)
          ∙ get_longer (j.done ++ h ∷ []) left (length j.done) h (get_last j.done h),
    )

pub joins_one : (share : TableId) (first : PassOf) (all left : List Helper) (h : Helper) (p q : PassOf)
    → IsJoining share first all (h ∷ left) p → IsPassOf share q → q.view ≡ both_of p.view h.pass.view
    → Begins p.view.seen q.view.seen → Begins h.pass.view.seen q.view.seen → IsSound q.view
    → IsJoining share first all left q
joins_one share first all left h p q j of e from_p from_h sound =
    let whole : (j.done ++ h ∷ []) ++ left ≡ all = append_assoc j.done (h ∷ []) left ∙ j.whole in
    let here : (k : ℕ) × (slice_get all k ≡ Some h) = joins_next share first all left h p j in
    record {
      done = j.done ++ h ∷ [];
      whole = whole;
      pass = of;
      joined = λ line X able.
          let d = j.joined line X able in
          let one = able here.0 h here.1 in
          let u : used_by j.done + h.units.used ≡ used_by (j.done ++ h ∷ []) = sym (used_push j.done h) in
          let U : ℕ → Type 0 = λ z. HasAdded line X q.view z in
          record {
            pass = of;
            same = ap (λ (z : PassView). z.base) e ∙ d.same;
            part = let s : q.view.parts ≡ p.view.parts + h.pass.view.parts = ap (λ (z : PassView). z.parts) e in
                omega (arith, s, d.part, one.part, length-append j.done (h ∷ []));
            begins = begins_on first.view.seen p.view.seen q.view.seen d.begins from_p;
            own = sound.own;
            behind = λ k x g. omega (
              arith,
              sound.from k x g,
              ap (λ (z : Base). z.from) (ap (λ (z : PassView). z.base) e ∙ d.same),
            );
            added = subst U u (added_joined line X p.view h.pass.view q.view (used_by j.done) h.units.used d.added
                one.added from_p from_h (ap (λ (z : PassView). z.own) e));
            each = λ k x g. elim (get_push_cases j.done h x k g) [
              | inl y ↦ begins_on x.pass.view.seen p.view.seen q.view.seen (d.each k x y.1) from_p
              | inr y ↦ (let P : Helper → Type 0 = λ z. Begins z.pass.view.seen q.view.seen in subst P y.1 from_h)
            ];
          };
    }

pub joins_all : (share : TableId) (first : PassOf) (all : List Helper) (p : PassOf) → IsJoining share first all [] p
    → (line : Line) (X : ℕ) → AreJoinable first.view.base first.view.seen line X all
    → HasJoined share first.view.base first.view.seen first.view.parts line X all p
joins_all share first all p j line X able =
    let e : j.done ≡ all = sym (append-nil j.done) ∙ j.whole in
    let P : List Helper → Type 0 =
    λ z. HasJoined share first.view.base first.view.seen first.view.parts line X z p in
    subst P e (j.joined line X able)

-- Passes split off for some hands, and the hands that are left.
pub record IsSplitting (share : TableId) (base : Base) (seen : List Item) (us : List Units) (hands left : List HandView)
    (hs : List Helper) (p : PassOf) : Type 0 where
  pub done : List HandView
  pub whole : done ++ left ≡ hands
  pub count : length hs ≡ length done
  pub bare : IsBare share base seen (1024 - length hs) p
  pub ready : AreReady share base seen us hands hs

pub splits_none : (share : TableId) (base : Base) (seen : List Item) (us : List Units) (hands : List HandView)
    (hs : List Helper) (p : PassOf) → hs ≡ [] → IsBare share base seen 1024 p
    → IsSplitting share base seen us hands hands hs p
splits_none share base seen us hands hs p none b =
    let P : List Helper → Type 0 = λ z. IsSplitting share base seen us hands hands z p in
    subst P (sym none) (record {
      done = [];
      whole = refl;
      count = refl;
      bare = b;
      ready = λ k h u v e. absurd (cc);
    })

pub splits_below : (share : TableId) (base : Base) (seen : List Item) (us : List Units) (hands left : List HandView)
    (v : HandView) (hs : List Helper) (p : PassOf) → IsSplitting share base seen us hands (v ∷ left) hs p
    → length hs < length hands
splits_below share base seen us hands left v hs p s =
    omega (arith, s.count, ap (λ (z : List HandView). length z) s.whole, length-append s.done (v ∷ left))

pub splits_one : (share : TableId) (base : Base) (seen : List Item) (us : List Units) (hands left : List HandView)
    (v : HandView) (hs all : List Helper) (h : Helper) (p q own : PassOf) (u : Units)
    → IsSplitting share base seen us hands (v ∷ left) hs p
    → length hands ≤ 64 → IsPassOf share q → IsPassOf share own → q.view ≡ left_of p.view → own.view ≡ right_of p.view
    → all ≡ hs ++ h ∷ [] → h.pass ≡ own → h.hand ≡ v → slice_get us (length hs) ≡ Some u → h.units.left ≡ u.left
    → h.units.used ≡ 0 → IsSplitting share base seen us hands left all q
splits_one share base seen us hands left v hs all h p q own u s few of_q of_own e_left e_right grown is_own is_v at
    given none =
    let whole : (s.done ++ v ∷ []) ++ left ≡ hands = append_assoc s.done (v ∷ []) left ∙ s.whole in
    let below = splits_below share base seen us hands left v hs p s in
    let long : length all ≡ length hs + 1 =
    omega (arith, ap (λ (z : List Helper). length z) grown, length-append hs (h ∷ [])) in
    let two : 2 ≤ 1024 - length hs = omega (arith, below, few) in
    let n : 1024 - length hs - 1 ≡ 1024 - length all = omega (arith, long) in
    let B : ℕ → Type 0 = λ z. IsBare share base seen z q in
    let P : PassOf → Type 0 = λ z. IsBare share base seen 1 z in
    let here : slice_get hands (length hs) ≡ Some v =
    sym (ap (λ (z : List HandView). slice_get z (length hs)) whole)
    ∙ (ap (λ (z : ℕ). slice_get ((s.done ++ v ∷ []) ++ left) z) s.count
    ∙ get_longer (s.done ++ v ∷ []) left (length s.done) v (get_last s.done v)) in
    record {
      done = s.done ++ v ∷ [];
      whole = whole;
      count = omega (arith, long, s.count, length-append s.done (v ∷ []));
      bare = subst B n (bare_left share base seen (1024 - length hs) p q two s.bare of_q e_left);
      ready = ready_push share base seen us hands hs all h s.ready grown (λ w x f g. record {
        bare = subst P (sym is_own) (bare_right share base seen (1024 - length hs) p own two s.bare of_own e_right);
        own_hand = is_v ∙ same_Some v x (sym here ∙ g);
        left = given ∙ ap (λ (z : Units). z.left) (same_Some u w (sym at ∙ f));
        used = none;
      });
    }

pub splits_all : (share : TableId) (base : Base) (seen : List Item) (us : List Units) (hands : List HandView)
    (hs : List Helper) (p : PassOf) → IsSplitting share base seen us hands [] hs p → length hs ≡ length hands
splits_all share base seen us hands hs p s =
    omega (arith, s.count, ap (λ (z : List HandView). length z) s.whole, length-append s.done [])
