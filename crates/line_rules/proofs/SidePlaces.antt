-- The places of the tasks at a side and of those that are free to join it.
use Rattle.std.proofs.Common.{◌≡◌, ◌≢◌, ℕ, ◌<◌, ◌↔◌, Bool, true, false, List, length, set, sym, ap, ◌∙◌, ◌⊎◌, inl, inr}
use Rattle.std.proofs.Common.{subst, arith}
use Rattle.line_instance.specs.Truths.{In, IsEmpty}
use Rattle.line_instance.specs.Line.{Line, IsRanked, tasks, has}
use Rattle.line_rules.specs.Sides.{task_at}
use Rattle.line_rules.specs.declared.types.Side.{Side}
use Rattle.line_rules.proofs.SideFacts.{task_once}
use Rattle.std.proofs.lemmas.Bool.{cases_eq}
use Rattle.std.proofs.lemmas.List.{length-set}
use Rattle.line_instance.proofs.Members.{In-set_same, In-set_kept, In-set_cases, In-clear, In-clear_kept, In-clear_gone}
use Rattle.line_rules.specs.Ends.{AreMarked}

-- The places of a part are gone over: they have come but for those of the tasks that are left.
pub record Placing (line : Line) (s : Side) (part left places : List Bool) : Type 0 where
  pub within : (i : ℕ) → In left i → In part i
  pub is : (p : ℕ) → In places p ↔ (p < tasks line) × In part (task_at line s p) × (In left (task_at line s p) → ⊥)

pub place_start : (line : Line) (s : Side) (part places : List Bool) → ((p : ℕ) → In places p → ⊥)
    → Placing line s part part places
place_start line s part places none = record {
  within = λ i m. m;
  is = λ p. (λ m. absurd (none p m), λ m. absurd (m.2 m.1));
}

pub place_turn : (line : Line) → IsRanked line → (s : Side) (part left places : List Bool)
    → Placing line s part left places → (K Q : List Bool) (q i : ℕ) → q < tasks line → task_at line s q ≡ i → In left i
    → ((j : ℕ) → In K j ↔ In left j × (j ≢ i)) → ((j : ℕ) → In Q j ↔ In places j ⊎ (j ≡ q)) → Placing line s part K Q
place_turn line ranked s part left places h K Q q i w at mine inK inQ = record {
  within = λ j m. h.within j ((inK j).0 m).0;
  is = λ p. (
    λ m. elim ((inQ p).0 m) [
      | inl old ↦ (((h.is p).0 old).0, ((h.is p).0 old).1, λ k. ((h.is p).0 old).2 ((inK (task_at line s p)).0 k).0)
      | inr e ↦ (
          let P : ℕ → Type 0 = λ k. (k < tasks line) × In part (task_at line s k) × (In K (task_at line s k) → ⊥) in
          subst P (sym e) (w, ap (λ k. has part k) at ∙ h.within i mine, λ k. ((inK (task_at line s q)).0 k).1 at))
    ],
    λ m. (inQ p).1 (elim (cases_eq (task_at line s p) i) [
      | inl e ↦ inr (task_once line ranked s p q m.0 w (e ∙ sym at))
      | inr n ↦ inl ((h.is p).1 (m.0, m.1, λ k. m.2 ((inK (task_at line s p)).1 (k, n))))
    ]),
  );
}

pub place_end : (line : Line) (s : Side) (part left places : List Bool) → Placing line s part left places → IsEmpty left
    → (p : ℕ) → In places p ↔ (p < tasks line) × In part (task_at line s p)
place_end line s part left places h none p = (
  λ m. (((h.is p).0 m).0, ((h.is p).0 m).1),
  λ m. (h.is p).1 (m.0, m.1, none (task_at line s p)),
)

-- a set with one member more, and with one less
pub set_in : (a b : List Bool) (i : ℕ) → b ≡ set a i true → length b ≡ 1024 → i < 1024 → (j : ℕ) → In b j
    ↔ In a j ⊎ (j ≡ i)
set_in a b i e long l j =
    let short : length a ≡ 1024 = sym (length-set a i true) ∙ (sym (ap (λ x. length x) e) ∙ long) in (
      λ m. In-set_cases a i j (ap (λ x. has x j) (sym e) ∙ m),
      λ m. ap (λ x. has x j) e ∙ elim m [
        | inl h ↦ In-set_kept a i j h
        | inr q ↦
            ap (λ k. has (set a i true) k) q ∙ In-set_same a i (omega (arith, short, l))
      ],
    )

pub clear_in : (a b : List Bool) (i : ℕ) → b ≡ set a i false → (j : ℕ) → In b j ↔ In a j × (j ≢ i)
clear_in a b i e j = (
  λ m.
      let h : In (set a i false) j = ap (λ x. has x j) (sym e) ∙ m in
      (In-clear_kept a i j h, λ q. In-clear_gone a i (ap (λ k. has (set a i false) k) (sym q) ∙ h)),
  λ m. ap (λ x. has x j) e ∙ In-clear a i j m.0 m.1,
)

pub swap : (line : Line) (s : Side) (T F P : List Bool) → AreMarked line s T F P → AreMarked line s F T P
swap line s T F P m = record {
  is = λ p. (
    λ x. ((((m.is p).0 x).0), elim ((m.is p).0 x).1 [ inl a ↦ inr a | inr b ↦ inl b ]),
    λ x. (m.is p).1 (x.0, elim x.1 [ inl a ↦ inr a | inr b ↦ inl b ]),
  );
}

-- a task is free from now on
pub mark_free : (line : Line) → IsRanked line → (s : Side) (T F P : List Bool) → AreMarked line s T F P
    → (G Q : List Bool) (q i : ℕ) → q < tasks line → task_at line s q ≡ i → ((j : ℕ) → In G j ↔ In F j ⊎ (j ≡ i))
    → ((j : ℕ) → In Q j ↔ In P j ⊎ (j ≡ q)) → AreMarked line s T G Q
mark_free line ranked s T F P m G Q q i w at inG inQ = record {
  is = λ p. (
    λ x. elim ((inQ p).0 x) [
      | inl y ↦ (
        ((m.is p).0 y).0,
        elim ((m.is p).0 y).1 [
          | inl a ↦ inl a
          | inr f ↦
              inr ((inG (task_at line s p)).1 (inl f))
        ],
      )
      | inr e ↦ (omega (arith, w, e), inr ((inG (task_at line s p)).1 (inr (ap (λ k. task_at line s k) e ∙ at))))
    ],
    λ x. (inQ p).1 (elim x.1 [
      | inl a ↦ inl ((m.is p).1 (x.0, inl a))
      | inr f ↦ elim ((inG (task_at line s p)).0 f) [
        | inl g ↦ inl ((m.is p).1 (x.0, inr g))
        | inr e ↦ inr (task_once line ranked s p q x.0 w (e ∙ sym at))
      ]
    ]),
  );
}

module _ (line : Line) (ranked : IsRanked line) (s : Side) (T F P : List Bool) (m : AreMarked line s T F P) where
  -- a task stands at the side from now on
  pub mark_task : (S Q : List Bool) (q i : ℕ) → q < tasks line → task_at line s q ≡ i
      → ((j : ℕ) → In S j ↔ In T j ⊎ (j ≡ i)) → ((j : ℕ) → In Q j ↔ In P j ⊎ (j ≡ q)) → AreMarked line s S F Q
  mark_task S Q q i w at inS inQ = swap line s F S Q (mark_free line ranked s F T P (swap line s T F P m) S Q q i w at
      inS inQ)

  -- a free task is free no more
  pub unmark : (G Q : List Bool) (q i : ℕ) → q < tasks line → task_at line s q ≡ i → (In T i → ⊥)
      → ((j : ℕ) → In G j ↔ In F j × (j ≢ i)) → ((j : ℕ) → In Q j ↔ In P j × (j ≢ q)) → AreMarked line s T G Q
  unmark G Q q i w at gone inG inQ = record {
    is = λ p. (
      λ x.
          let y : In P p × (p ≢ q) = (inQ p).0 x in (
            ((m.is p).0 y.0).0,
            elim ((m.is p).0 y.0).1 [
              | inl a ↦ inl a
              | inr f ↦ inr ((inG (task_at line s p)).1 (
                f,
                λ e. y.1 (task_once line ranked s p q ((m.is p).0 y.0).0 w (e ∙ sym at)),
              ))
            ],
          ),
      λ x. (inQ p).1 (elim x.1 [
        | inl a ↦ ((m.is p).1 (x.0, inl a), λ e. gone (ap (λ k. has T k) (sym (ap (λ k. task_at line s k) e ∙ at)) ∙ a))
        | inr f ↦ (
            let g : In F (task_at line s p) × (task_at line s p ≢ i) = (inG (task_at line s p)).0 f in
            ((m.is p).1 (x.0, inr g.0), λ e. g.1 (ap (λ k. task_at line s k) e ∙ at)))
      ]),
    );
  }

  -- a free task comes to stand at the side
  pub move_in : (S G : List Bool) (i : ℕ) → In F i → ((j : ℕ) → In S j ↔ In T j ⊎ (j ≡ i))
      → ((j : ℕ) → In G j ↔ In F j × (j ≢ i)) → AreMarked line s S G P
  move_in S G i mine inS inG = record {
    is = λ p. (
      λ x. (
        ((m.is p).0 x).0,
        elim ((m.is p).0 x).1 [
          | inl a ↦ inl ((inS (task_at line s p)).1 (inl a))
          | inr f ↦ elim (cases_eq (task_at line s p) i) [
            | inl e ↦ inl ((inS (task_at line s p)).1 (inr e))
            | inr n ↦ inr ((inG (task_at line s p)).1 (f, n))
          ]
        ],
      ),
      λ x. (m.is p).1 (
        x.0,
        elim x.1 [
          | inl a ↦ elim ((inS (task_at line s p)).0 a) [
            | inl b ↦ inl b
            | inr e ↦ inr (ap (λ k. has F k) e ∙ mine)
          ]
          | inr f ↦ inr ((inG (task_at line s p)).0 f).0
        ],
      ),
    );
  }
