-- The covering pairs, collected in ascending order.
use Rattle.std.proofs.Common.{◌≡◌, ℕ, ◌+◌, ◌<◌, List, [], ◌∷◌, ◌++◌, length, get_or, refl, sym, ◌∙◌, ap, subst, arith}
use Rattle.std.proofs.Common.{inl, inr, length-append, false}
use Rattle.std.proofs.lemmas.List.{get_or_past, get_or_push, get_or_append_left}
use Rattle.std.proofs.lemmas.List.Elements.{Contains-append_left, Contains-append_right}
use Rattle.std.proofs.lemmas.Bool.{cases_lt, false≢true}
use Rattle.std.specs.List.{Contains}
use Rattle.line_instance.specs.declared.arcs.Prec.{Prec}
use Rattle.line_instance.specs.Line.{Line, IsLine, tasks, Before, Covers}
use Rattle.line_instance.specs.Walks.{Leads, arc_at}
use Rattle.in2_reader.specs.Written.{StandsBefore, AreCovers, AreCoversTo}

abbrev pair_of : ℕ → ℕ → Prec
pair_of i j = record { first = i; «then» = j }

pub last_task : (line : Line) (i j : ℕ) → IsLine line → Before line i j → j < tasks line
last_task line i j s b = elim (cases_lt j (tasks line)) [
  | inl l ↦ l
  | inr g ↦ absurd (false≢true (sym (ap (λ r. get_or r i false)
      (get_or_past line.before j [] (omega (arith, s.before_rows)))) ∙ b))
]

pub first_task : (line : Line) (i j : ℕ) → IsLine line → Before line i j → i < tasks line
first_task line i j s b = (s.before j (last_task line i j s b)).tasks i b

pub none_yet : (line : Line) → AreCoversTo line [] 0 0
none_yet line = record {
  rises = λ k l. absurd (omega arith);
  right = λ k l. absurd (omega arith);
  low = λ k l. absurd (omega arith);
  all = λ a b c s. absurd (elim s [ inl l ↦ omega arith | inr e ↦ omega (arith, e.1) ]);
}

old_at : (ps : List Prec) (p : Prec) (k : ℕ) → k < length ps → arc_at (ps ++ p ∷ []) k ≡ arc_at ps k
old_at ps p k l = get_or_append_left ps (p ∷ []) (pair_of 0 0) k l

new_at : (ps : List Prec) (p : Prec) (k : ℕ) → k ≡ length ps → arc_at (ps ++ p ∷ []) k ≡ p
new_at ps p k e = ap (arc_at (ps ++ p ∷ [])) e ∙ get_or_push ps p (pair_of 0 0) (length ps) refl

-- what holds of each old pair and of the new one holds of each
each : (P : Prec → Type 0) (ps : List Prec) (p : Prec) → ((k : ℕ) → k < length ps → P (arc_at ps k)) → P p → (k : ℕ)
    → k < length (ps ++ p ∷ []) → P (arc_at (ps ++ p ∷ []) k)
each P ps p old new k l = elim (cases_lt k (length ps)) [
  | inl h ↦ subst P (sym (old_at ps p k h)) (old k h)
  | inr h ↦ subst P (sym (new_at ps p k (omega (arith, length-append ps (p ∷ []))))) new
]

pub one_collected : (line : Line) (ps : List Prec) (i j : ℕ) → AreCoversTo line ps i j → Covers line i j
    → AreCoversTo line (ps ++ record { first = i; «then» = j } ∷ []) i (j + 1)
one_collected line ps i j a c =
    let new : Prec = pair_of i j in
    let long : length (ps ++ new ∷ []) ≡ length ps + 1 = length-append ps (new ∷ []) in
    let Below : Prec → Type 0 = λ p. StandsBefore p (pair_of i (j + 1)) in
    let Right : Prec → Type 0 = λ p. Covers line p.first p.«then» in
    let wider : (p : Prec) → StandsBefore p new → Below p =
    λ p s. elim s [ inl l ↦ inl l | inr e ↦ inr (e.0, omega (arith, e.1)) ] in
    record {
      rises = λ k l. elim (cases_lt (k + 1) (length ps)) [
        | inl h ↦ (let P : Prec → Type 0 = λ p. StandsBefore p (arc_at (ps ++ new ∷ []) (k + 1)) in
            let Q : Prec → Type 0 = λ p. StandsBefore (arc_at ps k) p in
            subst P (sym (old_at ps new k (omega arith))) (subst Q (sym (old_at ps new (k + 1) h)) (a.rises k h)))
        | inr h ↦ (let P : Prec → Type 0 = λ p. StandsBefore p (arc_at (ps ++ new ∷ []) (k + 1)) in
            let Q : Prec → Type 0 = λ p. StandsBefore (arc_at ps k) p in
            subst P (sym (old_at ps new k (omega arith))) (subst Q (sym (new_at ps new (k + 1) (omega arith)))
            (a.low k (omega arith))))
      ];
      right = each Right ps new a.right c;
      low = each Below ps new (λ k l. wider (arc_at ps k) (a.low k l)) (inr (refl, omega arith));
      all = λ x y d s.
          let old : StandsBefore (pair_of x y) new → Leads (ps ++ new ∷ []) x y =
          λ t. Contains-append_left ps (new ∷ []) (pair_of x y) (a.all x y d t) in
          elim s [
            | inl l ↦ old (inl l)
            | inr e ↦ elim (cases_lt y j) [
              | inl l ↦ old (inr (e.0, l))
              | inr g ↦ (let same : y ≡ j = omega (arith, e.1) in
                  let is : new ≡ pair_of x y = ap (λ z. pair_of z j) (sym e.0) ∙ ap (λ z. pair_of x z) (sym same) in
                  let P : Prec → Type 0 = λ p. Contains (ps ++ new ∷ []) p in
                  subst P is (Contains-append_right ps (new ∷ []) new (0, omega arith, refl)))
            ]
          ];
    }

pub one_passed : (line : Line) (ps : List Prec) (i j : ℕ) → AreCoversTo line ps i j → (Covers line i j → ⊥)
    → AreCoversTo line ps i (j + 1)
one_passed line ps i j a n = record {
  rises = a.rises;
  right = a.right;
  low = λ k l. elim (a.low k l) [ inl h ↦ inl h | inr e ↦ inr (e.0, omega (arith, e.1)) ];
  all = λ x y d s. elim s [
    | inl l ↦ a.all x y d (inl l)
    | inr e ↦ elim (cases_lt y j) [
      | inl l ↦ a.all x y d (inr (e.0, l))
      | inr g ↦ (let same : y ≡ j = omega (arith, e.1) in
          let P : ℕ → Type 0 = λ z. Covers line z j in
          let Q : ℕ → Type 0 = λ z. Covers line x z in
          absurd (n (subst P e.0 (subst Q same d))))
    ]
  ];
}

pub row_collected : (line : Line) (ps : List Prec) (i : ℕ) → IsLine line → AreCoversTo line ps i (tasks line)
    → AreCoversTo line ps (i + 1) 0
row_collected line ps i s a = record {
  rises = a.rises;
  right = a.right;
  low = λ k l. elim (a.low k l) [ inl h ↦ inl (omega arith) | inr e ↦ inl (omega (arith, e.0)) ];
  all = λ x y d t. elim t [
    | inl l ↦ elim (cases_lt x i) [
      | inl h ↦ a.all x y d (inl h)
      | inr h ↦
          a.all x y d (inr (omega arith, last_task line x y s d.before))
    ]
    | inr e ↦ absurd (omega (arith, e.1))
  ];
}

pub all_collected : (line : Line) (ps : List Prec) → IsLine line → AreCoversTo line ps (tasks line) 0
    → AreCovers line ps
all_collected line ps s a = record {
  rises = a.rises;
  right = a.right;
  all = λ i j c. a.all i j c (inl (first_task line i j s c.before));
}
