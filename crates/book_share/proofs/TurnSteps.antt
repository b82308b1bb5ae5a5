-- Each kind of step of a turn keeps the rule.
use Rattle.std.proofs.Common.{◌≡◌, ◌≢◌, ◌⊎◌, ℕ, zero, suc, ◌+◌, ◌%◌, ◌^◌, ◌<◌, ◌≤◌, eqb, List, [], ◌∷◌, ◌++◌, length}
use Rattle.std.proofs.Common.{set, refl, sym, ap, ◌∙◌, subst, inl, inr, arith, Option, Some, length-append}
use Rattle.std.specs.Prelude.{slice_index, slice_set}
use mathlib.Core.Option.{some, none, some-ne-none, some-injective}
use mathlib.Core.Logic.{dite}
use native.Mathlib.Decide.{ℕ_discrete}
use lib.ListN.{get_elem?}
use prog.Atomic.{either}
use Rattle.atomic_table.specs.Table.{State, step, Act, keeps, takes, gives, Allows, Valid, stepped, carried_after}
use Rattle.atomic_table.specs.Table.{opening}
use Rattle.atomic_table.proofs.Lists.{set_else, exchanged}
use Rattle.lemma_core.specs.History.{Item, replay, Begins, AreExact}
use Rattle.lemma_core.specs.Books.{BookView, IsReserved}
use Rattle.book_share.specs.Passes.{Phase, Idle, Holding, Recorded, Lowered, Spent, Base, PassView}
use Rattle.book_share.specs.Places.{but_last, times, once_from, AreAllFrom, Rises}
use Rattle.book_share.specs.Rule.{newcomer, spent, turn_of, shown, counted, fewest, IsReached, Stands, IsFor, Home}
use Rattle.book_share.specs.Rule.{IsIdle, OwnRises, all_parts, own_times, Kept}
use Rattle.book_share.specs.Steps.{missed, taken, recorded, given, Takes, Records, Gives}
use Rattle.book_share.proofs.Lists.{begins_refl, but_last_push, begins_but_last, rises_le}
use Rattle.book_share.proofs.Lists.{rises_wider, rises_push, times_push, once_none, once_more}
use Rattle.book_share.proofs.Sums.{at_same, set_there, total_set, total_at, total_two, total_only, all_set}
use Rattle.lemma_core.proofs.OwnFacts.{begins_longer}
use Rattle.lemma_core.proofs.HistoryGrows.{begins_on}

abbrev pub Room : Type 0
Room = State (Option BookView) PassView

-- the parts of the rule at a known phase
words_at : (s : Room) (k : Kept s) (p : Phase) → k.view.phase ≡ p
    → s.words ≡ turn_of p ∷ length k.view.seen ∷ fewest k.view.base (counted p k.view.seen) ∷ []
words_at s k p e = subst (λ (q : Phase). s.words ≡ turn_of q ∷ length k.view.seen ∷ fewest k.view.base
    (counted q k.view.seen) ∷ []) e k.words

home_at : (s : Room) (k : Kept s) (p : Phase) → k.view.phase ≡ p → Home p k.view.base k.view.seen s.homes
home_at s k p e = subst (λ (q : Phase). Home q k.view.base k.view.seen s.homes) e k.home

stands_at : (s : Room) (k : Kept s) (p : Phase) → k.view.phase ≡ p
    → Stands k.view.base k.view.seen (counted p k.view.seen)
stands_at s k p e = subst (λ (q : Phase). Stands k.view.base k.view.seen (counted q k.view.seen)) e k.stands

pub idle_spent : (v : PassView) → v.phase ≡ Idle → v ≡ spent → ⊥
idle_spent v e f = let g : Idle ≡ Spent = sym e ∙ ap (λ (u : PassView). u.phase) f in absurd (cc)

-- an idle pass has seen a beginning of what the others may have seen
pub idle_in : (s : Room) (k : Kept s) (id : ℕ) (v : PassView) → get_elem? s.views id ≡ some v → v.phase ≡ Idle
    → IsIdle k.view.base (shown k.view.phase k.view.seen) v
idle_in s k id v at e = dite (ℕ_discrete id k.at)
    (λ same.
    let is : k.view ≡ v = at_same s.views k.at k.view v k.there
    (subst (λ (n : ℕ). get_elem? s.views n ≡ some v) same at) in
    let whole : shown k.view.phase k.view.seen ≡ v.seen = (λ i. shown ((is i).phase) ((is i).seen))
    ∙ ap (λ (p : Phase). shown p v.seen) e in
    record {
      phase = e;
      base = sym (ap (λ (u : PassView). u.base) is);
      seen = subst (λ (h : List Item). Begins v.seen h) (sym whole) (begins_refl v.seen);
    })
    (λ other. elim (k.others id v other at) [ inl sp ↦ absurd (idle_spent v e sp) | inr i ↦ i ])

-- a pass in a turn is the one that has seen the whole history
pub turn_in : (s : Room) (k : Kept s) (id : ℕ) (v : PassView) → get_elem? s.views id ≡ some v → v.phase ≢ Idle
    → v.phase ≢ Spent → (k.at ≡ id) × (k.view ≡ v)
turn_in s k id v at busy live = dite (ℕ_discrete id k.at)
    (λ same. (
      sym same,
      at_same s.views k.at k.view v k.there
          (subst (λ (n : ℕ). get_elem? s.views n ≡ some v) same at),
    ))
    (λ other. elim (k.others id v other at) [
      | inl sp ↦ absurd (live (ap (λ (u : PassView). u.phase) sp))
      | inr i ↦
          absurd (busy i.phase)
    ])

-- where the turn is free, every pass is spent or idle
pub everyone : (s : Room) (k : Kept s) → k.view.phase ≡ Idle → (j : ℕ) (u : PassView) → get_elem? s.views j ≡ some u
    → (u ≡ spent) ⊎ IsIdle k.view.base k.view.seen u
everyone s k e j u at = dite (ℕ_discrete j k.at)
    (λ same.
    let is : k.view ≡ u = at_same s.views k.at k.view u k.there
    (subst (λ (n : ℕ). get_elem? s.views n ≡ some u) same at) in
    inr (record {
      phase = sym (ap (λ (x : PassView). x.phase) is) ∙ e;
      base = sym (ap (λ (x : PassView). x.base) is);
      seen = subst (λ (h : List Item). Begins u.seen h) (sym (ap (λ (x : PassView). x.seen) is))
          (begins_refl u.seen);
    }))
    (λ other. subst (λ (p : Phase). (u ≡ spent) ⊎ IsIdle k.view.base (shown p k.view.seen) u) e (k.others j u other at))

-- the sums and the own places, where one view changes from v to w
module _ (s : Room) (k : Kept s) (id : ℕ) (v w : PassView) (at : get_elem? s.views id ≡ some v) where
  pub places_set : (n : ℕ) (from : ℕ) → from ≡ k.view.base.from
      → ((x : ℕ) → times x w.own + once_from from (length k.view.seen) x ≡ times x v.own + once_from from n x) → (x : ℕ)
      → own_times x (set s.views id w) ≡ once_from from n x
  places_set n from is h x =
      let p = total_set (λ (u : PassView). times x u.own) s.views id v w at in
      let q : own_times x s.views ≡ once_from from (length k.view.seen) x =
      k.places x ∙ ap (λ (m : ℕ). once_from m (length k.view.seen) x) (sym is) in
      omega (arith, p, q, h x)

  pub parts_set : w.parts ≡ v.parts → all_parts (set s.views id w) ≡ all_parts s.views
  parts_set e = omega (arith, total_set (λ (u : PassView). u.parts) s.views id v w at)

  pub each_set : w.parts ≡ v.parts → (v ≡ spent → ⊥) → all_parts (set s.views id w) ≡ 1024 → (j : ℕ) (u : PassView)
      → get_elem? (set s.views id w) j ≡ some u → (u ≡ spent) ⊎ (1 ≤ u.parts)
  each_set e live all = all_set (λ j (u : PassView). (u ≡ spent) ⊎ (1 ≤ u.parts)) s.views id w
      (elim (k.each (sym (parts_set e) ∙ all) id v at) [ inl sp ↦ absurd (live sp) | inr l ↦ inr (omega arith) ])
      (λ j u ne f. k.each (sym (parts_set e) ∙ all) j u f)

  pub heard_set : Begins w.heard w.seen → (j : ℕ) (u : PassView) → get_elem? (set s.views id w) j ≡ some u
      → Begins u.heard u.seen
  heard_set mine = all_set (λ j (u : PassView). Begins u.heard u.seen) s.views id w mine (λ j u ne f. k.heard j u f)

  pub rises_set : OwnRises w → (j : ℕ) (u : PassView) → get_elem? (set s.views id w) j ≡ some u → OwnRises u
  rises_set mine = all_set (λ j (u : PassView). OwnRises u) s.views id w mine (λ j u ne f. k.rises j u f)

-- the first state
pub starts : (b : BookView) → IsReserved b → Stands (newcomer b).base b.events b.events → (n best : ℕ)
    → n ≡ length b.events → best ≡ (replay b.opening b.events).stations
    → Kept (opening (0 ∷ n ∷ best ∷ []) (Some b ∷ []) (newcomer b))
starts b room ok n best count least = record {
  at = 0;
  view = newcomer b;
  there = refl;
  words = λ i. 0 ∷ count i ∷ least i ∷ [];
  home = (b, refl, record { about = refl; opening = refl; events = refl; reserved = room });
  others = others;
  rises = rises;
  heard = heard;
  stands = ok;
  places = λ x. sym (once_none (length b.events) x);
  parts = omega arith;
  each = each;
}
  where
    others : (j : ℕ) (v : PassView) → j ≢ 0 → get_elem? (newcomer b ∷ []) j ≡ some v
        → (v ≡ spent) ⊎ IsIdle (newcomer b).base b.events v
    others zero v ne e = absurd (ne refl)
    others (suc j) v ne e = absurd (some-ne-none v (sym e))

    rises : (j : ℕ) (v : PassView) → get_elem? (newcomer b ∷ []) j ≡ some v → OwnRises v
    rises zero v e = subst OwnRises (some-injective (newcomer b) v e) (omega arith)
    rises (suc j) v e = absurd (some-ne-none v (sym e))

    heard : (j : ℕ) (v : PassView) → get_elem? (newcomer b ∷ []) j ≡ some v → Begins v.heard v.seen
    heard zero v e = subst (λ (u : PassView). Begins u.heard u.seen) (some-injective (newcomer b) v e) (b.events, refl)
    heard (suc j) v e = absurd (some-ne-none v (sym e))

    each : 1024 + 0 ≡ 1024 → (j : ℕ) (v : PassView) → get_elem? (newcomer b ∷ []) j ≡ some v
        → (v ≡ spent) ⊎ (1 ≤ v.parts)
    each full zero v e = inr (omega (arith, ap (λ (u : PassView). u.parts) (some-injective (newcomer b) v e)))
    each full (suc j) v e = absurd (some-ne-none v (sym e))

free_only : (p : Phase) → turn_of p ≡ 0 → (p ≡ Idle) ⊎ (p ≡ Spent)
free_only Idle e = inl refl
free_only Holding e = absurd (omega arith)
free_only Recorded e = absurd (omega arith)
free_only Lowered e = absurd (omega arith)
free_only Spent e = inr refl

held_only : (p : Phase) → turn_of p ≢ 0 → (turn_of p ≡ 1) × (p ≢ Idle)
held_only Idle e = absurd (e refl)
held_only Holding e = (refl, λ f. absurd (cc))
held_only Recorded e = (refl, λ f. absurd (cc))
held_only Lowered e = (refl, λ f. absurd (cc))
held_only Spent e = absurd (e refl)

-- take, where the turn is free
had : (n id : ℕ) (v : PassView) → v.phase ≡ Idle → (s : Room) → Kept s → get_elem? s.views id ≡ some v
    → slice_index s.words 0 ≡ 0
    → (w : PassView) × (a : Act (Option BookView)) × Valid s.homes [] a × Kept (stepped s 0 1 id [] w a)
    × Takes (step n 0 0 1 none) (v, []) (slice_index s.words 0) (w, carried_after [] a)
had n id v rest s k at zero_is =
    let turn : turn_of k.view.phase ≡ 0 = sym (ap (λ (l : List ℕ). slice_index l 0) k.words) ∙ zero_is in
    let p : k.view.phase ≡ Idle = elim (free_only k.view.phase turn)
    [ inl i ↦ i | inr sp ↦ absurd (home_at s k Spent sp) ] in
    let ws = words_at s k Idle p in
    let home = home_at s k Idle p in
    let b : BookView = home.0 in
    let mine : IsIdle k.view.base k.view.seen v = subst (λ (q : Phase). IsIdle k.view.base (shown q k.view.seen) v) p
    (idle_in s k id v at rest) in
    let base : k.view.base ≡ v.base = sym mine.base in
    let hist : k.view.seen ≡ b.events = sym home.2.events in
    let w : PassView = taken v b.events in
    let long : length k.view.seen ≡ length b.events = ap (λ (h : List Item). length h) hist in
    let live = idle_spent v rest in
    let whole : (v.parts ≡ 1024) → AreAllFrom v.base.from (length b.events) v.own = λ all x.
    let total_is : all_parts s.views ≡ 1024 = omega (
      arith,
      k.parts,
      total_at (λ (u : PassView). u.parts) s.views id v at,
    ) in
    let only = total_only (λ (u : PassView). times x u.own) s.views id v at (λ j u ne e. elim (k.each total_is j u e) [
      | inl sp ↦ ap (λ (y : PassView). times x y.own) sp
      | inr one ↦ absurd (omega (
        arith,
        total_two (λ (y : PassView). y.parts) s.views id j v u (λ g. ne (sym g)) at e,
        one,
        all,
        total_is,
      ))
    ]) in
    sym only ∙ k.places x ∙ (λ i. once_from ((base i).from) (long i) x) in (
      w,
      takes 0 (Some b),
      ap (λ hs. get_elem? hs 0) home.1,
      record {
        at = id;
        view = w;
        there = set_there s.views id v w at;
        words = ap (λ (l : List ℕ). slice_set l 0 1) ws ∙ (λ i. 1 ∷ long i ∷ fewest (base i) (hist i) ∷ []);
        home = ap (λ hs. slice_set hs 0 none) home.1;
        others = λ j u ne e. elim (everyone s k p j u (sym (set_else s.views id j w ne) ∙ e)) [
          | inl sp ↦ inl sp
          | inr i ↦ inr (subst (λ (x : Base × List Item). IsIdle x.0 x.1 u) (λ t. (base t, hist t)) i)
        ];
        rises = rises_set s k id v w at (rises_wider v.base.from v.own (length v.seen) (length b.events)
            (omega (arith, begins_longer v.seen k.view.seen mine.seen, long)) (k.rises id v at));
        heard = heard_set s k id v w at (begins_on v.heard v.seen b.events (k.heard id v at)
            (subst (λ (h : List Item). Begins v.seen h) hist mine.seen));
        stands = subst (λ (x : Base × List Item). Stands x.0 x.1 x.1) (λ t. (base t, hist t)) (stands_at s k Idle p);
        places = places_set s k id v w at (length b.events) v.base.from (ap (λ (x : Base). x.from) (sym base))
            (λ x. let e : once_from v.base.from (length k.view.seen) x ≡ once_from v.base.from (length b.events) x =
            ap (λ (m : ℕ). once_from v.base.from m x) long in omega (arith, e));
        parts = omega (arith, k.parts, parts_set s k id v w at refl);
        each = each_set s k id v w at refl live;
      },
      (
        λ _. (
          b,
          refl,
          record {
            book = record {
              about = home.2.about ∙ ap (λ (x : Base). x.about) base;
              opening = home.2.opening ∙ ap (λ (x : Base). x.opening) base;
              events = refl;
              reserved = home.2.reserved;
            };
            seen = subst (λ (h : List Item). Begins v.seen h) hist mine.seen;
            all = whole;
          },
        ),
        λ ne. absurd (ne zero_is),
      ),
    )

-- take, where the turn is held
held : (n id : ℕ) (v : PassView) → v.phase ≡ Idle → (s : Room) → Kept s → get_elem? s.views id ≡ some v
    → slice_index s.words 0 ≢ 0
    → (w : PassView) × (a : Act (Option BookView)) × Valid s.homes [] a
    × Kept (stepped s 0 (slice_index s.words 0) id [] w a)
    × Takes (step n 0 0 1 none) (v, []) (slice_index s.words 0) (w, carried_after [] a)
held n id v rest s k at busy =
    let turn : slice_index s.words 0 ≡ turn_of k.view.phase = ap (λ (l : List ℕ). slice_index l 0) k.words in
    let is = held_only k.view.phase (λ z. busy (turn ∙ z)) in
    let mine = idle_in s k id v at rest in
    let apart : k.at ≢ id = λ e. is.1 (ap (λ (u : PassView). u.phase)
    (at_same s.views id k.view v (subst (λ (m : ℕ). get_elem? s.views m ≡ some k.view) e k.there) at) ∙ rest) in
    let w : PassView = missed v in
    let live = idle_spent v rest in (
      w,
      keeps,
      tt,
      record {
        at = k.at;
        view = k.view;
        there = set_else s.views id k.at w apart ∙ k.there;
        words = subst (λ (l : List ℕ). slice_set l 0 (slice_index l 0) ≡ l) (sym k.words) refl ∙ k.words;
        home = k.home;
        others = λ j u ne e. all_set (λ i (y : PassView). i ≢ k.at
            → (y ≡ spent) ⊎ IsIdle k.view.base (shown k.view.phase k.view.seen) y) s.views id w
            (λ _. inr (record { phase = refl; base = mine.base; seen = mine.seen }))
            (λ i y far f far'. k.others i y far' f) j u e ne;
        rises = rises_set s k id v w at (k.rises id v at);
        heard = heard_set s k id v w at (k.heard id v at);
        stands = k.stands;
        places = places_set s k id v w at (length k.view.seen) k.view.base.from refl (λ x. refl);
        parts = omega (arith, k.parts, parts_set s k id v w at refl);
        each = each_set s k id v w at refl live;
      },
      ((λ z. absurd (busy z)), λ _. (turn ∙ is.0, refl)),
    )

pub takes_turn : (n id : ℕ) (v : PassView) → v.phase ≡ Idle
    → Allows Kept n id (v, []) 0 (λ m. either (eqb m 0) 1 m) (Takes (step n 0 0 1 none) (v, []))
takes_turn n id v rest s k wide at _ = exchanged (slice_index s.words 0) 0 1
    (λ (m : ℕ). (w : PassView) × (a : Act (Option BookView)) × Valid s.homes [] a × Kept (stepped s 0 m id [] w a)
    × Takes (step n 0 0 1 none) (v, []) (slice_index s.words 0) (w, carried_after [] a))
    (had n id v rest s k at)
    (held n id v rest s k at)

-- a pass in a turn: its phase, and the rule in its own words
module _ (s : Room) (k : Kept s) (id : ℕ) (v : PassView) (at : get_elem? s.views id ≡ some v) (busy : v.phase ≢ Idle)
    (live : v.phase ≢ Spent) where
  pub me_is : (k.at ≡ id) × (k.view ≡ v)
  me_is = turn_in s k id v at busy live

  pub my_words : s.words ≡ turn_of v.phase ∷ length v.seen ∷ fewest v.base (counted v.phase v.seen) ∷ []
  my_words = subst (λ (u : PassView). s.words ≡ turn_of u.phase ∷ length u.seen ∷ fewest u.base
      (counted u.phase u.seen) ∷ []) me_is.1 k.words

  pub my_home : Home v.phase v.base v.seen s.homes
  my_home = subst (λ (u : PassView). Home u.phase u.base u.seen s.homes) me_is.1 k.home

  pub my_stands : Stands v.base v.seen (counted v.phase v.seen)
  my_stands = subst (λ (u : PassView). Stands u.base u.seen (counted u.phase u.seen)) me_is.1 k.stands

  pub my_others : (j : ℕ) (u : PassView) → j ≢ id → get_elem? s.views j ≡ some u
      → (u ≡ spent) ⊎ IsIdle v.base (shown v.phase v.seen) u
  my_others j u ne e = subst (λ (y : PassView). (u ≡ spent) ⊎ IsIdle y.base (shown y.phase y.seen) u) me_is.1
      (k.others j u (λ f. ne (f ∙ me_is.0)) e)

  pub my_places : (x : ℕ) → own_times x s.views ≡ once_from v.base.from (length v.seen) x
  my_places x = subst (λ (u : PassView). own_times x s.views ≡ once_from u.base.from (length u.seen) x) me_is.1
      (k.places x)

  pub not_spent : v ≡ spent → ⊥
  not_spent e = live (ap (λ (u : PassView). u.phase) e)

  -- the rule after a step of this pass, which keeps its base and its parts
  pub next : (w : PassView) (words : List ℕ) (homes : _) → w.base ≡ v.base → w.parts ≡ v.parts
      → words ≡ turn_of w.phase ∷ length w.seen ∷ fewest w.base (counted w.phase w.seen) ∷ []
      → Home w.phase w.base w.seen homes
      → Stands w.base w.seen (counted w.phase w.seen)
      → Begins (shown v.phase v.seen) (shown w.phase w.seen)
      → OwnRises w
      → Begins v.seen w.seen → w.heard ≡ v.heard
      → ((x : ℕ) → times x w.own + once_from v.base.from (length v.seen) x
      ≡ times x v.own + once_from v.base.from (length w.seen) x)
      → Kept (record { words = words; homes = homes; views = slice_set s.views id w })
  next w words homes base parts ws home stands longer_is rises grows heard places = record {
    at = id;
    view = w;
    there = set_there s.views id v w at;
    words = ws;
    home = home;
    others = λ j u ne e. elim (my_others j u ne (sym (set_else s.views id j w ne) ∙ e)) [
      | inl sp ↦ inl sp
      | inr i ↦ inr (record {
        phase = i.phase;
        base = i.base ∙ sym base;
        seen = begins_on u.seen (shown v.phase v.seen) (shown w.phase w.seen) i.seen longer_is;
      })
    ];
    rises = rises_set s k id v w at rises;
    heard = heard_set s k id v w at (subst (λ (h : List Item). Begins h w.seen) (sym heard)
        (begins_on v.heard v.seen w.seen (k.heard id v at) grows));
    stands = stands;
    places = λ x.
        let p = total_set (λ (u : PassView). times x u.own) s.views id v w at in
        let q : once_from w.base.from (length w.seen) x ≡ once_from v.base.from (length w.seen) x =
        ap (λ (y : Base). once_from y.from (length w.seen) x) base in
        omega (arith, p, my_places x, places x, q);
    parts = omega (arith, k.parts, parts_set s k id v w at parts);
    each = each_set s k id v w at parts not_spent;
  }

pub shown_prefix : (p : Phase) (h : List Item) → Begins (shown p h) h
shown_prefix Idle h = begins_refl h
shown_prefix Holding h = begins_refl h
shown_prefix Recorded h = begins_but_last h
shown_prefix Lowered h = begins_but_last h
shown_prefix Spent h = begins_refl h

pub home_out : (p : Phase) → p ≢ Idle → (base : Base) (h : List Item) (homes : _) → Home p base h homes
    → homes ≡ none ∷ []
home_out Idle ne base h homes e = absurd (ne refl)
home_out Holding ne base h homes e = e
home_out Recorded ne base h homes e = e
home_out Lowered ne base h homes e = e
home_out Spent ne base h homes e = absurd e

pub gives_turn : (n id : ℕ) (v : PassView) (b : BookView) → v.phase ≢ Idle → v.phase ≢ Spent → IsFor v.base v.seen b
    → fewest v.base (counted v.phase v.seen) ≡ fewest v.base v.seen
    → Allows Kept n id (v, (0, Some b) ∷ []) 0 (λ _. 0) (λ _. Gives (step n 0 0 0 none) (v, (0, Some b) ∷ []) 0)
gives_turn n id v b busy live is same s k wide at _ =
    let ws = my_words s k id v at busy live in (
      given v,
      gives,
      tt,
      next s k id v at busy live (given v) (slice_set s.words 0 0) (slice_set s.homes 0 (some (Some b))) refl refl
          (ap (λ (l : List ℕ). slice_set l 0 0) ws ∙ (λ i. 0 ∷ length v.seen ∷ same i ∷ [])) (
            b,
            ap (λ hs. slice_set hs 0 (some (Some b))) (home_out v.phase busy v.base v.seen s.homes
                (my_home s k id v at busy live)),
            is,
          )
          (let ok = my_stands s k id v at busy live in record {
            exact = ok.exact;
            reached = subst (λ (m : ℕ). IsReached v.base.about m) same ok.reached;
            small = ok.small;
          })
          (shown_prefix v.phase v.seen)
          (k.rises id v at)
          (begins_refl v.seen) refl
          (λ x. refl),
      refl,
    )

pub records_item : (n id : ℕ) (v : PassView) (b : BookView) (i : Item) → v.phase ≡ Holding → b.events ≡ v.seen ++ i ∷ []
    → AreExact v.base.opening b.events → length b.events < 2 ^ 64
    → Allows Kept n id (v, (0, Some b) ∷ []) 1 (λ m. (m + 1) % 2 ^ 64)
    (Records (step n 1 1 0 none) (v, (0, Some b) ∷ []))
records_item n id v b i hold longer_is exact small s k wide at _ =
    let busy : v.phase ≢ Idle = λ e. (let f : Holding ≡ Idle = sym hold ∙ e in absurd (cc)) in
    let live : v.phase ≢ Spent = λ e. (let f : Holding ≡ Spent = sym hold ∙ e in absurd (cc)) in
    let ws : s.words ≡ 1 ∷ length v.seen ∷ fewest v.base v.seen ∷ [] =
    subst (λ (p : Phase). s.words ≡ turn_of p ∷ length v.seen ∷ fewest v.base (counted p v.seen) ∷ []) hold
    (my_words s k id v at busy live) in
    let found : slice_index s.words 1 ≡ length v.seen = ap (λ (l : List ℕ). slice_index l 1) ws in
    let long : length b.events ≡ suc (length v.seen) = omega
    (arith, ap (λ (h : List Item). length h) longer_is, length-append v.seen (i ∷ [])) in
    let count : (slice_index s.words 1 + 1) % 2 ^ 64 ≡ length b.events = omega arith in
    let before : but_last b.events ≡ v.seen = ap (λ (h : List Item). but_last h) longer_is ∙ but_last_push v.seen i in
    let low : v.base.from ≤ length v.seen = rises_le v.base.from v.own (length v.seen) (k.rises id v at) in
    let w : PassView = recorded v b.events in (
      w,
      keeps,
      tt,
      next s k id v at busy live w (slice_set s.words 1 ((slice_index s.words 1 + 1) % 2 ^ 64)) s.homes refl refl
          ((λ t. slice_set (ws t) 1 (count t)) ∙ (λ t. 1 ∷ length b.events ∷ fewest v.base (sym before t) ∷ []))
          (home_out v.phase busy v.base v.seen s.homes (my_home s k id v at busy live))
          (let ok = my_stands s k id v at busy live in
          let done : counted v.phase v.seen ≡ but_last b.events =
          ap (λ (p : Phase). counted p v.seen) hold ∙ sym before in
          record {
            exact = exact;
            reached = subst (λ (h : List Item). IsReached v.base.about (fewest v.base h)) done
                ok.reached;
            small = ok.small;
          })
          (subst (λ (p : Phase). Begins (shown p v.seen) (but_last b.events)) (sym hold)
          (subst (λ (h : List Item). Begins v.seen h) (sym before) (begins_refl v.seen)))
          (subst (λ (m : ℕ). Rises v.base.from (v.own ++ length v.seen ∷ []) m) (sym long)
          (rises_push v.base.from v.own (length v.seen) (k.rises id v at)))
          (i ∷ [], sym longer_is) refl
          (λ x. let e : once_from v.base.from (length b.events) x ≡ once_from v.base.from (suc (length v.seen)) x =
          ap (λ (m : ℕ). once_from v.base.from m x) long in
          omega (arith, times_push x v.own (length v.seen), once_more v.base.from (length v.seen) x low, e)),
      (refl, found),
    )
