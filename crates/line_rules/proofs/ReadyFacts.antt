-- The tasks that may stand next at a side, by precedence alone.
use Rattle.std.proofs.Common.{◌≡◌, ℕ, ◌<◌, ◌≤◌, ◌↔◌, Bool, true, false, List, [], ◌∷◌, length, set, sym, ap, ◌∙◌, subst}
use Rattle.std.proofs.Common.{◌⊎◌, inl, inr, arith}
use Rattle.line_instance.specs.Truths.{In, minus, meet, IsEmpty}
use Rattle.line_instance.proofs.Members.{In-minus, In-minus_parts, In-meet, In-meet_parts, In-set_same, In-set_kept}
use Rattle.line_instance.proofs.Members.{In-set_cases, In-clear, In-clear_kept, In-clear_gone, members}
use Rattle.line_instance.specs.Line.{Line, IsLine, has}
use Rattle.line_rules.specs.declared.types.Side.{Side}
use Rattle.line_rules.specs.Sides.{Ahead, IsReady, AreReady}
use Rattle.line_rules.proofs.JoinFacts.{not_ahead}
use Rattle.line_rules.proofs.MembersInOrder.{members_less}
use Rattle.std.proofs.lemmas.Bool.{cases_Bool, cases_eq, false≢true, false_from_ne_true}

absent_from : (a : List Bool) (i : ℕ) → (In a i → ⊥) → has a i ≡ false
absent_from a i n = false_from_ne_true (has a i) n

still_absent : (a : List Bool) (t i : ℕ) → has a i ≡ false → has (set a t false) i ≡ false
still_absent a t i e = absent_from (set a t false) i (λ m. false≢true (sym e ∙ In-clear_kept a t i m))

-- A task is given up: it is ready again, and what waits for it isn't.
pub ready_less : (line : Line) → IsLine line → (s : Side) (R part free F : List Bool) (t : ℕ)
    → AreReady line s R part free → In R t → In part t → ((j : ℕ) → In R j → Ahead line s j t → In part j)
    → ((i : ℕ) → In F i ↔ (In free i ⊎ (i ≡ t)) × (Ahead line s t i → ⊥)) → AreReady line s R (set part t false) F
ready_less line ok s R part free F t before m p closed found = record {
  is = λ i. (
    λ f.
        let q : (In free i ⊎ (i ≡ t)) × (Ahead line s t i → ⊥) = (found i).0 f in
        elim q.0 [
          | inl g ↦ (
              let r : IsReady line s R part i = (before.is i).0 g in
              record {
                within = r.within;
                new = still_absent part t i r.new;
                ready = λ j x w. In-clear part t j (r.ready j x w)
                    (λ e. q.1 (let P : ℕ → Type 0 = λ k. Ahead line s k i in subst P e w));
              })
          | inr e ↦ (
              let P : ℕ → Type 0 = λ k. IsReady line s R (set part t false) k in
              subst P (sym e) (record {
                within = m;
                new = absent_from (set part t false) t (In-clear_gone part t);
                ready = λ j x w. In-clear part t j (closed j x w)
                    (λ d. not_ahead line ok s t (let Q : ℕ → Type 0 = λ k. Ahead line s k t in subst Q d w));
              }))
        ],
    λ r. (found i).1 (elim (cases_eq i t) [
      | inl e ↦ (inr e, λ w. not_ahead line ok s t (let P : ℕ → Type 0 = λ k. Ahead line s t k in subst P e w))
      | inr n ↦ (
        inl ((before.is i).1 (record {
          within = r.within;
          new =
              absent_from part i (λ x. false≢true (sym r.new ∙ In-clear part t i x n));
          ready = λ j x w. In-clear_kept part t j (r.ready j x w);
        })),
        λ w. In-clear_gone part t (r.ready t m w),
      )
    ]),
  );
}

module _ (line : Line) (ok : IsLine line) (s : Side) (R part free W : List Bool) (t : ℕ)
    (before : AreReady line s R part free) (waits : (i : ℕ) → In W i ↔ Ahead line s t i) where
  -- A task joins: it is ready no more, and what waits for it may be.
  pub ready_more : (F : List Bool) → In R t → has part t ≡ false → t < length part
      → ((i : ℕ) → In F i ↔ In (set free t false) i ⊎ (In (meet W R) i × IsReady line s R (set part t true) i))
      → AreReady line s R (set part t true) F
  ready_more F m new long found = record {
    is = λ i. (
      λ f. elim ((found i).0 f) [
        | inl g ↦ (
            let r : IsReady line s R part i = (before.is i).0 (In-clear_kept free t i g) in
            record {
              within = r.within;
              new = absent_from (set part t true) i (λ x. elim (In-set_cases part t i x) [
                | inl y ↦ false≢true (sym r.new ∙ y)
                | inr e ↦ In-clear_gone free t (sym (ap (λ k. has (set free t false) k) e) ∙ g)
              ]);
              ready = λ j x w. In-set_kept part t j (r.ready j x w);
            })
        | inr g ↦ g.1
      ],
      λ r. (found i).1 (elim (cases_Bool (has W i)) [
        | inl w ↦ inr (In-meet W R i w r.within, r)
        | inr n ↦ inl (
            let apart : (i ≡ t) → ⊥ = λ e. false≢true (sym r.new
            ∙ (ap (λ k. has (set part t true) k) e ∙ In-set_same part t long)) in
            In-clear free t i ((before.is i).1 (record {
              within = r.within;
              new = absent_from part i (λ x. false≢true (sym r.new ∙ In-set_kept part t i x));
              ready = λ j x w. elim (In-set_cases part t j (r.ready j x w)) [
                | inl y ↦ y
                | inr e ↦ absurd (false≢true (sym n ∙ (waits i).1
                    (let P : ℕ → Type 0 = λ k. Ahead line s k i in subst P e w)))
              ];
            })) apart)
      ]),
    );
  }

  -- what waits for a task that isn't in the part isn't in it either
  pub waiting_new : ((i j : ℕ) → In R i → In part j → Ahead line s i j → In part i) → In R t → has part t ≡ false
      → (i : ℕ) → In (meet W R) i → In R i × (has (set part t true) i ≡ false)
  waiting_new closed m new i g =
      let q : In W i × In R i = In-meet_parts W R i g in (
        q.1,
        absent_from (set part t true) i (λ x. elim (In-set_cases part t i x) [
          | inl y ↦ false≢true (sym new ∙ closed t i m y ((waits i).0 q.0))
          | inr e ↦ not_ahead line ok s t (let P : ℕ → Type 0 = λ k. Ahead line s t k in subst P e ((waits i).0 q.0))
        ]),
      )

-- the test of a task: nothing that is ahead of it is absent
pub ready_test : (line : Line) (s : Side) (R part A absent both : List Bool) (i : ℕ)
    → ((j : ℕ) → In A j ↔ Ahead line s j i) → absent ≡ minus R part → both ≡ meet A absent → In R i → has part i ≡ false
    → IsEmpty both ↔ IsReady line s R part i
ready_test line s R part A absent both i ahead missing met m new = (
  λ none. record {
    within = m;
    new = new;
    ready = λ j x w. elim (cases_Bool (has part j)) [
      | inl t ↦ t
      | inr f ↦ absurd (none j (ap (λ b. has b j) met ∙ In-meet A absent j ((ahead j).1 w)
          (ap (λ b. has b j) missing ∙ In-minus R part j x f)))
    ];
  },
  λ r j h.
      let q : In A j × In absent j = In-meet_parts A absent j (ap (λ b. has b j) (sym met) ∙ h) in
      let p : In R j × (has part j ≡ false) = In-minus_parts R part j (ap (λ b. has b j) (sym missing) ∙ q.1) in
      false≢true (sym p.1 ∙ r.ready j p.0 ((ahead j).0 q.0)),
)

-- Candidates are gone over: what is found among them is ready, and what is ready among them is found or left.
pub record Adding (line : Line) (s : Side) (R part start old left free : List Bool) : Type 0 where
  pub within : (j : ℕ) → In left j → In start j
  pub found : (j : ℕ) → In free j → In old j ⊎ (In start j × IsReady line s R part j)
  pub kept : (j : ℕ) → In old j → In free j
  pub all : (j : ℕ) → In start j → IsReady line s R part j → In free j ⊎ In left j

pub add_start : (line : Line) (s : Side) (R part start old : List Bool) → Adding line s R part start old start old
add_start line s R part start old = record {
  within = λ j m. m;
  found = λ j m. inl m;
  kept = λ j m. m;
  all = λ j m r. inr m;
}

pub add_end : (line : Line) (s : Side) (R part start old left free : List Bool)
    → Adding line s R part start old left free → IsEmpty left → (i : ℕ) → In free i
    ↔ In old i ⊎ (In start i × IsReady line s R part i)
add_end line s R part start old left free h empty i = (
  h.found i,
  λ m. elim m [
    | inl o ↦ h.kept i o
    | inr r ↦ elim (h.all i r.0 r.1) [ inl f ↦ f | inr l ↦ absurd (empty i l) ]
  ],
)

module _ (line : Line) (s : Side) (R part start old left free W : List Bool) (i : ℕ)
    (h : Adding line s R part start old left free) (sound : (j : ℕ) → In start j → In R j × (has part j ≡ false))
    (mine : In left i) (waits : (j : ℕ) → In W j ↔ Ahead line s i j) where
  pub add_turn : (F : List Bool) → ((j : ℕ) → In F j → In free j ⊎ ((j ≡ i) × IsReady line s R part i))
      → ((j : ℕ) → In free j → In F j) → (IsReady line s R part i → In F i)
      → Adding line s R part start old (minus (set left i false) W) F
  add_turn F new kept ready = record {
    within = λ j m. h.within j (In-clear_kept left i j (In-minus_parts (set left i false) W j m).0);
    found = λ j m. elim (new j m) [
      | inl f ↦ h.found j f
      | inr e ↦ (let P : ℕ → Type 0 = λ k. In start k × IsReady line s R part k in
          inr (subst P (sym e.0) (h.within i mine, e.1)))
    ];
    kept = λ j m. kept j (h.kept j m);
    all = λ j m r. elim (h.all j m r) [
      | inl f ↦ inl (kept j f)
      | inr l ↦ elim (cases_eq j i) [
        | inl e ↦ (let P : ℕ → Type 0 = λ k. In F k in let Q : ℕ → Type 0 = λ k. IsReady line s R part k in
            inl (subst P (sym e) (ready (subst Q e r))))
        | inr n ↦ (
            let q : In R i × (has part i ≡ false) = sound i (h.within i mine) in
            inr (In-minus (set left i false) W j (In-clear left i j l n)
            (absent_from W j (λ w. false≢true (sym q.1 ∙ r.ready i q.0 ((waits j).0 w))))))
      ]
    ];
  }

minus_fewer : (a b : List Bool) → members (minus a b) ≤ members a
unfolding members
minus_fewer [] b = omega arith
minus_fewer (x ∷ xs) [] = omega arith
minus_fewer (true ∷ xs) (true ∷ ys) = omega (arith, minus_fewer xs ys)
minus_fewer (true ∷ xs) (false ∷ ys) = omega (arith, minus_fewer xs ys)
minus_fewer (false ∷ xs) (y ∷ ys) = omega (arith, minus_fewer xs ys)

-- without a member, and without others, a set has fewer members
pub fewer_left : {rest L : List Bool} (left W : List Bool) (i : ℕ) → In left i → rest ≡ set left i false
    → L ≡ minus rest W → members L < members left
fewer_left {rest} {L} left W i m is_rest is_L =
    let P : List Bool → Type 0 = λ b. members b < members left in
    subst P (sym (is_L ∙ ap (λ b. minus b W) is_rest)) (omega
    (arith, minus_fewer (set left i false) W, members_less left i m))
