-- Split and join keep the rule.
use Rattle.std.proofs.Common.{◌≡◌, ◌≢◌, ◌⊎◌, ℕ, ◌+◌, ◌-◌, ◌≤◌, cond, List, [], ◌∷◌, ◌++◌, length, set, refl, sym, ap}
use Rattle.std.proofs.Common.{◌∙◌, subst, inl, inr, arith}
use Rattle.std.specs.Prelude.{nat_lt}
use Rattle.std.proofs.lemmas.Bool.Decides.{nat_tests}
use mathlib.Core.Option.{some}
use mathlib.Core.Logic.{dite}
use native.Mathlib.Decide.{ℕ_discrete}
use lib.ListN.{get_elem?}
use Rattle.atomic_table.specs.Table.{Splits, Joins}
use Rattle.atomic_table.proofs.Lists.{at_set, at_snoc, at_longer, set_else}
use Rattle.lemma_core.specs.History.{Item, Begins}
use Rattle.book_share.specs.Passes.{Phase, Idle, Base, PassView}
use Rattle.book_share.specs.Places.{longer, times, once_from, Rises, total}
use Rattle.book_share.specs.Rule.{spent, turn_of, shown, counted, fewest, Stands, Home, IsIdle, OwnRises, all_parts}
use Rattle.book_share.specs.Rule.{own_times, Kept, left_of, right_of, both_of}
use Rattle.book_share.proofs.Lists.{begins_refl, longer_begins, longer_left, longer_right, rises_le}
use Rattle.book_share.proofs.Lists.{rises_wider, times_merged, rises_merged, begins_both, begins_shorter, once_le}
use Rattle.book_share.proofs.Sums.{at_same, set_there, total_set, total_push, total_two, all_set}
use Rattle.book_share.proofs.TurnSteps.{Room, idle_in, idle_spent}
use Rattle.lemma_core.proofs.OwnFacts.{begins_longer}

half_sum : (p : ℕ) → cond (nat_lt 1 p) (p - 1) 0 + cond (nat_lt 1 p) 1 0 ≤ p
half_sum p = grind (arith, nat_tests)

half_all : (p : ℕ) → 1 ≤ p → cond (nat_lt 1 p) (p - 1) 0 + cond (nat_lt 1 p) 1 0 ≡ p
    → (1 ≤ cond (nat_lt 1 p) (p - 1) 0) × (1 ≤ cond (nat_lt 1 p) 1 0)
half_all p some_part e = (grind (arith, nat_tests), grind (arith, nat_tests))

pub splits : (id : ℕ) (v : PassView) → v.phase ≡ Idle → Splits Kept id v (left_of v) (right_of v)
splits id v rest s k at =
    let l : PassView = left_of v in
    let r : PassView = right_of v in
    let mine = idle_in s k id v at rest in
    let live = idle_spent v rest in
    let parts_are : all_parts (set s.views id l ++ r ∷ []) + v.parts ≡ all_parts s.views + (l.parts + r.parts) =
    omega (
      arith,
      total_push (λ (u : PassView). u.parts) (set s.views id l) r,
      total_set (λ (u : PassView). u.parts) s.views id v l at,
    ) in
    let places_are : (x : ℕ) → own_times x (set s.views id l ++ r ∷ []) ≡ own_times x s.views = λ x.
    omega (
      arith,
      total_push (λ (u : PassView). times x u.own) (set s.views id l) r,
      total_set (λ (u : PassView). times x u.own) s.views id v l at,
    ) in
    let at_one : (P : PassView → Type 0) → P l → P r → ((j : ℕ) (u : PassView) → j ≢ id → get_elem? s.views j ≡ some u
    → P u) → (j : ℕ) (u : PassView) → get_elem? (set s.views id l ++ r ∷ []) j ≡ some u → P u = λ P pl pr po j u e.
    elim (at_snoc (set s.views id l) r u j e) [
      | inl old ↦ all_set (λ _ (y : PassView). P y) s.views id l pl po j u old
      | inr new ↦ subst P new pr
    ] in
    dite (ℕ_discrete id k.at)
    (λ same.
    let is : k.view ≡ v = at_same s.views k.at k.view v k.there
    (subst (λ (n : ℕ). get_elem? s.views n ≡ some v) same at) in
    let p : k.view.phase ≡ Idle = ap (λ (u : PassView). u.phase) is ∙ rest in
    record {
      at = id;
      view = l;
      there = at_longer (set s.views id l) (r ∷ []) id l (set_there s.views id v l at);
      words = subst (λ (u : PassView). s.words ≡ turn_of u.phase ∷ length u.seen ∷ fewest u.base
          (counted u.phase u.seen) ∷ []) is k.words ∙ (λ i.
          turn_of (rest i) ∷ length v.seen ∷ fewest v.base (counted (rest i) v.seen) ∷ []);
      home = subst (λ (q : Phase). Home q v.base v.seen s.homes) rest
          (subst (λ (u : PassView). Home u.phase u.base u.seen s.homes) is k.home);
      others = λ j u ne e. elim (at_snoc (set s.views id l) r u j e) [
        | inl old ↦ subst (λ (y : Base × List Item). (u ≡ spent) ⊎ IsIdle y.0 y.1 u)
            (λ i. ((is i).base, (ap (λ (q : Phase). shown q k.view.seen) p ∙ ap (λ (z : PassView). z.seen) is) i))
            (k.others j u (λ f. ne (f ∙ sym same)) (sym (set_else s.views id j l ne) ∙ old))
        | inr new ↦ inr (subst (λ (y : PassView). IsIdle v.base v.seen y) new
            (record { phase = refl; base = refl; seen = begins_refl v.seen }))
      ];
      rises = at_one OwnRises (k.rises id v at) (rises_le v.base.from v.own (length v.seen) (k.rises id v at))
          (λ j u ne e. k.rises j u e);
      heard = at_one (λ (u : PassView). Begins u.heard u.seen) (k.heard id v at) (v.seen, refl)
          (λ j u ne e. k.heard j u e);
      stands = subst (λ (q : Phase). Stands v.base v.seen (counted q v.seen)) rest
          (subst (λ (u : PassView). Stands u.base u.seen (counted u.phase u.seen)) is k.stands);
      places = λ x. places_are x ∙ k.places x ∙ ap (λ (u : PassView). once_from u.base.from (length u.seen) x) is;
      parts = omega (arith, parts_are, k.parts, half_sum v.parts);
      each = λ full.
          let whole : all_parts s.views ≡ 1024 = omega (arith, parts_are, k.parts, half_sum v.parts) in
          let some_part : 1 ≤ v.parts = elim (k.each whole id v at) [ inl sp ↦ absurd (live sp) | inr one ↦ one ] in
          let h = half_all v.parts some_part (omega (arith, parts_are)) in
          at_one (λ (u : PassView). (u ≡ spent) ⊎ (1 ≤ u.parts)) (inr h.0) (inr h.1) (λ j u ne e. k.each whole j u e);
    })
    (λ other.
    record {
      at = k.at;
      view = k.view;
      there = at_longer (set s.views id l) (r ∷ []) k.at k.view
          (set_else s.views id k.at l (λ e. other (sym e)) ∙ k.there);
      words = k.words;
      home = k.home;
      others = λ j u ne e. elim (at_snoc (set s.views id l) r u j e) [
        | inl old ↦ all_set (λ i (y : PassView). i ≢ k.at → (y ≡ spent)
            ⊎ IsIdle k.view.base (shown k.view.phase k.view.seen) y) s.views id l
            (λ _. inr (record { phase = refl; base = mine.base; seen = mine.seen }))
            (λ i y far f far'. k.others i y far' f) j u old ne
        | inr new ↦ inr (subst (λ (y : PassView). IsIdle k.view.base (shown k.view.phase k.view.seen) y) new
            (record { phase = refl; base = mine.base; seen = mine.seen }))
      ];
      rises = at_one OwnRises (k.rises id v at) (rises_le v.base.from v.own (length v.seen) (k.rises id v at))
          (λ j u ne e. k.rises j u e);
      heard = at_one (λ (u : PassView). Begins u.heard u.seen) (k.heard id v at) (v.seen, refl)
          (λ j u ne e. k.heard j u e);
      stands = k.stands;
      places = λ x. places_are x ∙ k.places x;
      parts = omega (arith, parts_are, k.parts, half_sum v.parts);
      each = λ full.
          let whole : all_parts s.views ≡ 1024 = omega (arith, parts_are, k.parts, half_sum v.parts) in
          let some_part : 1 ≤ v.parts = elim (k.each whole id v at) [ inl sp ↦ absurd (live sp) | inr one ↦ one ] in
          let h = half_all v.parts some_part (omega (arith, parts_are)) in
          at_one (λ (u : PassView). (u ≡ spent) ⊎ (1 ≤ u.parts)) (inr h.0) (inr h.1) (λ j u ne e. k.each whole j u e);
    })

-- Where two idle passes become one: v at id and w at other. The pass with the whole history is one of them, or a third.
module _ (s : Room) (k : Kept s) (id other : ℕ) (v w : PassView) (at : get_elem? s.views id ≡ some v)
    (apart : other ≢ id) (there : get_elem? s.views other ≡ some w) (rest : v.phase ≡ Idle)
    (rest' : w.phase ≡ Idle) where
  abbrev b : PassView
  b = both_of v w

  abbrev after : List PassView
  after = set (set s.views id b) other spent

  there_now : get_elem? (set s.views id b) other ≡ some w
  there_now = set_else s.views id other b apart ∙ there

  b_there : get_elem? after id ≡ some b
  b_there = set_else (set s.views id b) other id spent (λ e. apart (sym e)) ∙ set_there s.views id v b at

  sums : (f : PassView → ℕ) → f b ≡ f v + f w → f spent ≡ 0 → total f after ≡ total f s.views
  sums f e z = omega (arith, total_set f s.views id v b at, total_set f (set s.views id b) other w spent there_now)

  mine : IsIdle k.view.base (shown k.view.phase k.view.seen) v
  mine = idle_in s k id v at rest

  theirs : IsIdle k.view.base (shown k.view.phase k.view.seen) w
  theirs = idle_in s k other w there rest'

  places_are : (x : ℕ) → own_times x after ≡ own_times x s.views
  places_are x = sums (λ (u : PassView). times x u.own) (times_merged x v.own w.own) refl

  parts_are : all_parts after ≡ all_parts s.views
  parts_are = sums (λ (u : PassView). u.parts) refl refl

  each_of : (P : PassView → Type 0) → P b → P spent → ((j : ℕ) (u : PassView) → j ≢ id → j ≢ other
      → get_elem? s.views j ≡ some u → P u) → (j : ℕ) (u : PassView) → get_elem? after j ≡ some u → P u
  each_of P pb ps po j u e = elim (at_set (set s.views id b) other j spent u e) [
    | inl gone ↦ subst P gone.1 ps
    | inr old ↦ elim (at_set s.views id j b u old.1) [
      | inl me ↦ subst P me.1 pb
      | inr far ↦ po j u far.0 old.0 far.1
    ]
  ]

  b_rises : OwnRises b
  b_rises =
      let same : w.base.from ≡ v.base.from = ap (λ (y : Base). y.from) (theirs.base ∙ sym mine.base) in
      let long = begins_longer v.seen (longer v.seen w.seen)
      (begins_both v.seen w.seen (begins_shorter v.seen w.seen (shown k.view.phase k.view.seen) mine.seen
      theirs.seen)).0 in
      let long' = begins_longer w.seen (longer v.seen w.seen)
      (begins_both v.seen w.seen (begins_shorter v.seen w.seen (shown k.view.phase k.view.seen) mine.seen
      theirs.seen)).1 in
      rises_merged v.base.from v.own w.own (length (longer v.seen w.seen))
      (rises_wider v.base.from v.own (length v.seen) (length (longer v.seen w.seen)) long (k.rises id v at))
      (subst (λ (m : ℕ). Rises m w.own (length (longer v.seen w.seen))) same
      (rises_wider w.base.from w.own (length w.seen) (length (longer v.seen w.seen)) long' (k.rises other w there)))
      (λ x. omega (
        arith,
        total_two (λ (u : PassView). times x u.own) s.views id other v w (λ e. apart (sym e)) at
            there,
        k.places x,
        once_le k.view.base.from (length k.view.seen) x,
      ))

  b_heard : Begins b.heard b.seen
  b_heard = begins_shorter v.seen w.seen (shown k.view.phase k.view.seen) mine.seen theirs.seen

  b_idle : IsIdle k.view.base (shown k.view.phase k.view.seen) b
  b_idle = record {
    phase = refl;
    base = mine.base;
    seen = longer_begins v.seen w.seen (shown k.view.phase k.view.seen)
        mine.seen theirs.seen;
  }

  b_each : all_parts after ≡ 1024 → (j : ℕ) (u : PassView) → get_elem? after j ≡ some u → (u ≡ spent) ⊎ (1 ≤ u.parts)
  b_each full =
      let whole : all_parts s.views ≡ 1024 = sym parts_are ∙ full in
      each_of (λ (u : PassView). (u ≡ spent) ⊎ (1 ≤ u.parts))
      (elim (k.each whole id v at) [ inl sp ↦ absurd (idle_spent v rest sp) | inr one ↦ inr (omega arith) ])
      (inl refl)
      (λ j u ne ne' e. k.each whole j u e)

  -- one of the two has seen the whole history
  whole_here : k.view.phase ≡ Idle → b.seen ≡ k.view.seen → (k.at ≡ id) ⊎ (k.at ≡ other)
      → Kept record { words = s.words; homes = s.homes; views = after }
  whole_here p is who =
      let base : k.view.base ≡ b.base = sym mine.base in
      record {
        at = id;
        view = b;
        there = b_there;
        words = k.words ∙ (λ i. turn_of (p i) ∷ length (sym is i) ∷ fewest (base i) (counted (p i) (sym is i)) ∷ []);
        home = subst (λ (y : Base × List Item). Home Idle y.0 y.1 s.homes) (λ i. (base i, sym is i))
            (subst (λ (q : Phase). Home q k.view.base k.view.seen s.homes) p k.home);
        others = λ j u ne e. elim (at_set (set s.views id b) other j spent u e) [
          | inl gone ↦ inl (sym gone.1)
          | inr old ↦
              let far : get_elem? s.views j ≡ some u = sym (set_else s.views id j b ne) ∙ old.1 in
              let away : j ≢ k.at = λ f. elim who [ inl a ↦ ne (f ∙ a) | inr o ↦ old.0 (f ∙ o) ] in
              subst (λ (y : Base × List Item). (u ≡ spent) ⊎ IsIdle y.0 y.1 u)
              (λ i. (base i, (ap (λ (q : Phase). shown q k.view.seen) p ∙ sym is) i)) (k.others j u away far)
        ];
        rises = each_of OwnRises b_rises (omega arith) (λ j u ne ne' e. k.rises j u e);
        heard = each_of (λ (u : PassView). Begins u.heard u.seen) b_heard ([], refl) (λ j u ne ne' e. k.heard j u e);
        stands = subst (λ (y : Base × List Item). Stands y.0 y.1 y.1) (λ i. (base i, sym is i))
            (subst (λ (q : Phase). Stands k.view.base k.view.seen (counted q k.view.seen)) p k.stands);
        places = λ x. places_are x ∙ k.places x ∙ (λ i. once_from ((base i).from) (length (sym is i)) x);
        parts = omega (arith, parts_are, k.parts);
        each = b_each;
      }

  -- a third pass has
  whole_elsewhere : k.at ≢ id → k.at ≢ other → Kept record { words = s.words; homes = s.homes; views = after }
  whole_elsewhere far far' = record {
    at = k.at;
    view = k.view;
    there = set_else (set s.views id b) other k.at spent far' ∙ (set_else s.views id k.at b far ∙ k.there);
    words = k.words;
    home = k.home;
    others = λ j u ne e. elim (at_set (set s.views id b) other j spent u e) [
      | inl gone ↦ inl (sym gone.1)
      | inr old ↦ elim (at_set s.views id j b u old.1) [
        | inl me ↦ inr (subst (λ (y : PassView). IsIdle k.view.base (shown k.view.phase k.view.seen) y) me.1 b_idle)
        | inr more ↦ k.others j u ne more.1
      ]
    ];
    rises = each_of OwnRises b_rises (omega arith) (λ j u ne ne' e. k.rises j u e);
    heard = each_of (λ (u : PassView). Begins u.heard u.seen) b_heard ([], refl) (λ j u ne ne' e. k.heard j u e);
    stands = k.stands;
    places = λ x. places_are x ∙ k.places x;
    parts = omega (arith, parts_are, k.parts);
    each = b_each;
  }

  kept_both : Kept record { words = s.words; homes = s.homes; views = after }
  kept_both = dite (ℕ_discrete k.at id)
      (λ same.
      let is : k.view ≡ v = at_same s.views k.at k.view v k.there
      (subst (λ (n : ℕ). get_elem? s.views n ≡ some v) (sym same) at) in
      let p : k.view.phase ≡ Idle = ap (λ (u : PassView). u.phase) is ∙ rest in
      let all : shown k.view.phase k.view.seen ≡ v.seen = ap (λ (q : Phase). shown q k.view.seen) p
      ∙ ap (λ (u : PassView). u.seen) is in
      whole_here p (longer_left v.seen w.seen (subst (λ (h : List Item). Begins w.seen h) all theirs.seen)
      ∙ sym (ap (λ (u : PassView). u.seen) is)) (inl same))
      (λ far. dite (ℕ_discrete k.at other)
      (λ same.
      let is : k.view ≡ w = at_same s.views k.at k.view w k.there
      (subst (λ (n : ℕ). get_elem? s.views n ≡ some w) (sym same) there) in
      let p : k.view.phase ≡ Idle = ap (λ (u : PassView). u.phase) is ∙ rest' in
      let all : shown k.view.phase k.view.seen ≡ w.seen = ap (λ (q : Phase). shown q k.view.seen) p
      ∙ ap (λ (u : PassView). u.seen) is in
      whole_here p (longer_right v.seen w.seen (subst (λ (h : List Item). Begins v.seen h) all mine.seen)
      ∙ sym (ap (λ (u : PassView). u.seen) is)) (inr same))
      (λ far'. whole_elsewhere far far'))

pub joins : (id other : ℕ) (v w : PassView) → v.phase ≡ Idle → w.phase ≡ Idle
    → Joins Kept id v other w (both_of v w) spent
joins id other v w rest rest' s k at apart there =
    kept_both s k id other v w at apart (sym (set_else s.views id other (both_of v w) apart) ∙ there) rest rest'
