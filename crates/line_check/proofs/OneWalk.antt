-- A walk over loads has one answer: its first failure, if it has one, comes before what the steps end at.
use Rattle.std.proofs.Common.{◌≡◌, ℕ, ◌+◌, ◌<◌, ◌≤◌, Bool, List, length, take, refl, sym, ap, subst, ◌⊎◌, inl, inr}
use Rattle.std.proofs.Common.{arith, Option, Some, None, length-take}
use Rattle.std.specs.Prelude.{slice_get}
use Rattle.std.proofs.lemmas.Bool.{cases_order}
use Rattle.std.proofs.lemmas.Option.{slice_get_within}
use Rattle.line_instance.specs.Line.{Line}
use Rattle.line_rules.specs.Order.{Precedes, UpTo, Lists, Counts}
use Rattle.line_rules.specs.Entries.{Covers}
use Rattle.line_rules.specs.declared.types.Load.{Load}
use Rattle.line_rules.specs.declared.types.Entry.{Entry}
use Rattle.line_rules.proofs.Monotone.{one_count}
use Rattle.line_rules.proofs.Unique.{unique, precedes_trans}
use Rattle.line_rules.proofs.LemmasHold.{get_take}
use Rattle.line_rules.proofs.ListFacts.{get_some}
use Rattle.line_check.specs.Walks.{IsFirstLate, IsUncovered, IsSpare, IsPast, CountsTo}
use Rattle.line_check.proofs.Exact.{firsts, counts_up, not_past}
use Rattle.line_rules.proofs.CoverFacts.{lists_same}

-- two rows of tests, of which each ends at the first that fails, agree where they agree at each end
pub same_end : {A X Y V W C : Type 0} → ((A → ⊥) × X) ⊎ (A × Y) → ((A → ⊥) × V) ⊎ (A × W) → (X → V → C) → (Y → W → C)
    → C
same_end p q f g = elim p [
  | inl x ↦ elim q [ inl v ↦ f x.1 v.1 | inr w ↦ absurd (x.0 w.0) ]
  | inr y ↦ elim q [ inl v ↦ absurd (v.0 y.0) | inr w ↦ g y.1 w.1 ]
]

-- there is one first cite that is late
pub one_late : (cites : List ℕ) (k x y : ℕ) → IsFirstLate cites k x → IsFirstLate cites k y → x ≡ y
one_late cites k x y p q = elim (cases_order p.place q.place) [
  | inl s ↦ (let P : ℕ → Type 0 = λ z. slice_get cites z ≡ Some y in
      let e : slice_get cites p.place ≡ Some y = subst P (sym s) q.there in
      let t : slice_get cites p.place ≡ Some x = p.there in cc)
  | inr d ↦ elim d [
    | inl less ↦ absurd (omega (arith, p.late, q.earlier p.place x less p.there))
    | inr more ↦ absurd (omega (arith, q.late, p.earlier q.place y more q.there))
  ]
]

module _ (line : Line) (W P : Load → Type 0) (walked : (k : Load) → P k → W k)
    (ways : (a b : Load) → W a → W b → (a ≡ b) ⊎ (Precedes line a b ⊎ Precedes line b a)) (earlier : List Entry)
    (R : List Bool) (most c : ℕ)
    (cites : List ℕ) where
  -- no load is uncovered of which the first cites cover all before it and itself
  not_among : (Q : Load → Type 0) (n : ℕ) → Covers line Q earlier R most c (take n cites) → (load : Load) → Q load
      → ((k : Load) → Precedes line k load → P k → Q k) → ((k : Load) → Q k → P k)
      → IsUncovered line W P earlier R most c cites load → ⊥
  not_among Q n h load m into out u =
      let q : (k : ℕ) × (slice_get h.loads k ≡ Some load) = h.listed.complete load m in
      let mine : Lists line (λ k. P k × Precedes line k load) (take q.0 h.loads) =
      lists_same line (λ k. Q k × Precedes line k load) (λ k. P k × Precedes line k load) (take q.0 h.loads)
      (λ k p. (out k p.0, p.1)) (λ k p. (into k p.1 p.0, p.1)) (firsts line Q h.loads h.listed q.0 load q.1) in
      let same : take q.0 h.loads ≡ u.before.1.loads = unique line (take q.0 h.loads) u.before.1.loads
      (λ k. P k × Precedes line k load) mine u.before.1.listed in
      let within : q.0 < length h.loads = slice_get_within h.loads q.0 load q.1 in
      let long : q.0 ≡ u.taken = omega (
        arith,
        ap (λ (z : List Load). length z) same,
        u.before.1.as_many,
        length-take u.taken cites,
        length-take q.0 h.loads,
        u.before.0,
        within,
      ) in
      let x : (x : ℕ) × (slice_get (take n cites) q.0 ≡ Some x) =
      get_some (take n cites) q.0 (omega (arith, h.as_many, within)) in
      let A : ℕ → Type 0 = λ z. slice_get cites z ≡ Some x.0 in
      u.fails x.0 (subst A long (get_take cites n q.0 x.0 x.1).1) (h.cited q.0 x.0 load x.1 q.1)

  -- up to a load more loads are walked than up to one before it
  counts_rise : (a b : Load) (m n : ℕ) → W a → W b → Precedes line a b → CountsTo line W P earlier R most c cites a m
      → CountsTo line W P earlier R most c cites b n → m < n
  counts_rise a b m n wa wb less to_a to_b =
      let B : Load → Type 0 = λ k. (W k × UpTo line (Some b) k) × Precedes line k b in
      let q : (k : ℕ) × (slice_get to_b.loads k ≡ Some b) = to_b.listed.complete b (wb, inl refl) in
      let within : q.0 < length to_b.loads = slice_get_within to_b.loads q.0 b q.1 in
      let all : Counts line B q.0 = record {
        loads = take q.0 to_b.loads;
        listed = firsts line (λ k. W k × UpTo line (Some b) k) to_b.loads to_b.listed q.0 b q.1;
        long = omega (arith, length-take q.0 to_b.loads, within);
      } in
      let near : (k : Load) → UpTo line (Some a) k → Precedes line k b = λ k u. elim u [
        | inl s ↦ (let S : Load → Type 0 = λ z. Precedes line z b in subst S (sym s) less)
        | inr p ↦ precedes_trans line k a b p less
      ] in
      let up : Counts line (λ k. B k × UpTo line (Some a) k) m = record {
        loads = to_a.loads;
        listed =
            lists_same line (λ k. W k × UpTo line (Some a) k) (λ k. B k × UpTo line (Some a) k) to_a.loads
            (λ k p. (((p.0, inr (near k p.1)), near k p.1), p.1)) (λ k p. (p.0.0.0, p.1)) to_a.listed;
        long = to_a.long;
      } in
      omega (arith, counts_up line B P earlier R most c cites a m q.0 ((wa, inr less), less) up all, within, to_b.long)

  one_uncovered : (a b : Load) → IsUncovered line W P earlier R most c cites a
      → IsUncovered line W P earlier R most c cites b → a ≡ b
  one_uncovered a b u v = elim (ways a b (walked a u.needs) (walked b v.needs)) [
    | inl same ↦ same
    | inr d ↦ elim d [
      | inl less ↦ absurd (not_among (λ k. P k × Precedes line k b) v.taken v.before.1 a (u.needs, less)
          (λ k p m. (m, precedes_trans line k a b p less)) (λ k m. m.0) u)
      | inr more ↦ absurd (not_among (λ k. P k × Precedes line k a) u.taken u.before.1 b (v.needs, more)
          (λ k p m. (m, precedes_trans line k b a p more)) (λ k m. m.0) v)
    ]
  ]

  not_spared : (load : Load) → IsUncovered line W P earlier R most c cites load
      → IsSpare line W P earlier R most c cites → ⊥
  not_spared load u s = not_among P s.taken s.covers load u.needs (λ k p m. m) (λ k m. m) u

  -- a load that is walked within the steps comes before the one that is walked past them
  not_before : (load : Load) (units steps : ℕ) → IsUncovered line W P earlier R most c cites load
      → CountsTo line W P earlier R most c cites load units → units ≤ steps
      → IsPast line W P earlier R most c cites steps → ⊥
  not_before load units steps u to few p = elim (ways load p.load (walked load u.needs) p.walked) [
    | inl same ↦ (
        let S : Load → Type 0 = λ z. CountsTo line W P earlier R most c cites z units in
        omega (
          arith,
          few,
          one_count line (λ k. W k × UpTo line (Some p.load) k) units (steps + 1) (subst S same to)
              p.counts,
        )
        )
    | inr d ↦ elim d [
      | inl less ↦ not_among (λ k. P k × Precedes line k p.load) p.taken p.before.1 load (u.needs, less)
          (λ k q m. (m, precedes_trans line k load p.load q less)) (λ k m. m.0) u
      | inr more ↦ omega (
        arith,
        few,
        counts_rise p.load load (steps + 1) units p.walked (walked load u.needs) more
            p.counts to,
      )
    ]
  ]

  -- a failure of a walk: an uncovered load, or, where there is none, spare cites, and the loads that were walked
  abbrev pub FailsWalk : Option Load → ℕ → Type 0
  FailsWalk None units = IsSpare line W P earlier R most c cites × Counts line W units
  FailsWalk (Some load) units = IsUncovered line W P earlier R most c cites load
      × CountsTo line W P earlier R most c cites load units

  pub one_failure : (o p : Option Load) (m n : ℕ) → FailsWalk o m → FailsWalk p n → (o ≡ p) × (m ≡ n)
  one_failure None None m n f g = (refl, one_count line W m n f.1 g.1)
  one_failure None (Some b) m n f g = absurd (not_spared b g.0 f.0)
  one_failure (Some a) None m n f g = absurd (not_spared a f.0 g.0)
  one_failure (Some a) (Some b) m n f g =
      let e : a ≡ b = one_uncovered a b f.0 g.0 in
      let S : Load → Type 0 = λ z. CountsTo line W P earlier R most c cites z m in
      (ap (λ (z : Load). Some z) e, one_count line (λ k. W k × UpTo line (Some b) k) m n (subst S e f.1) g.1)

  pub fails_in_time : (o : Option Load) (m steps : ℕ) → FailsWalk o m → m ≤ steps
      → IsPast line W P earlier R most c cites steps → ⊥
  fails_in_time None m steps f few p = omega (arith, few, not_past line W P earlier R most c cites steps m p f.1)
  fails_in_time (Some a) m steps f few p = not_before a m steps f.0 f.1 few p
