-- What a failed check says rules out that the entry follows.
use Rattle.std.proofs.Common.{◌≡◌, ℕ, zero, suc, ◌+◌, ◌<◌, ◌≤◌, Bool, List, length, take, refl, sym, ap, ◌∙◌}
use Rattle.std.proofs.Common.{subst, inl, inr, arith, Some, length-take}
use Rattle.std.specs.Prelude.{slice_get}
use Rattle.line_instance.specs.Line.{Line}
use Rattle.line_rules.specs.Order.{Precedes, UpTo, Lists, Counts}
use Rattle.line_rules.specs.Entries.{Covers}
use Rattle.line_rules.specs.declared.types.Load.{Load}
use Rattle.line_rules.specs.declared.types.Entry.{Entry}
use Rattle.line_rules.proofs.CoverFacts.{counts_push}
use Rattle.line_rules.proofs.Unique.{unique, precedes_trans, precedes_itself}
use Rattle.line_rules.proofs.LemmasHold.{get_take}
use Rattle.line_rules.proofs.ListFacts.{get_some, get_taken}
use Rattle.std.proofs.lemmas.Bool.{cases_order}
use Rattle.std.proofs.lemmas.Option.{same_Some, slice_get_within}
use Rattle.line_check.specs.Walks.{IsUncovered, IsSpare, IsPast, CountsTo}

-- a listed load precedes each further one
far : (line : Line) (P : Load → Type 0) (ls : List Load) → Lists line P ls → (j k : ℕ) (a b : Load) → j < k
    → slice_get ls j ≡ Some a → slice_get ls k ≡ Some b → Precedes line a b
far line P ls h j zero a b l e f = absurd (omega arith)
far line P ls h j (suc k) a b l e f =
    let m : (x : Load) × (slice_get ls k ≡ Some x) = get_some ls k (omega (arith, slice_get_within ls (suc k) b f)) in
    elim (cases_order j k) [
      | inl s ↦ (let P : Load → Type 0 = λ z. Precedes line z b in
          subst P (same_Some m.0 a (sym m.1 ∙ (ap (λ (z : ℕ). slice_get ls z) (sym s) ∙ e))) (h.rises k m.0 b m.1 f))
      | inr d ↦ elim d [
        | inl less ↦ precedes_trans line a m.0 b (far line P ls h j k a m.0 less e m.1) (h.rises k m.0 b m.1 f)
        | inr more ↦ absurd (omega arith)
      ]
    ]

-- the loads before one of a list are its first ones
pub firsts : (line : Line) (P : Load → Type 0) (ls : List Load) → Lists line P ls → (q : ℕ) (load : Load)
    → slice_get ls q ≡ Some load → Lists line (λ k. P k × Precedes line k load) (take q ls)
firsts line P ls h q load e = record {
  rises = λ k a b f g. h.rises k a b (get_take ls q k a f).1 (get_take ls q (suc k) b g).1;
  sound = λ k a f. let p : (k < q) × (slice_get ls k ≡ Some a) = get_take ls q k a f in
      (h.sound k a p.1, far line P ls h k q a load p.0 p.1 e);
  complete = λ a p.
      let r : (k : ℕ) × (slice_get ls k ≡ Some a) = h.complete a p.0 in
      elim (cases_order r.0 q) [
        | inl s ↦ (let Q : Load → Type 0 = λ z. Precedes line z load in
            absurd (precedes_itself line load (subst Q (same_Some a load
            (sym r.1 ∙ (ap (λ (z : ℕ). slice_get ls z) s ∙ e))) p.1)))
        | inr d ↦ elim d [
          | inl l ↦ (r.0, get_taken ls q r.0 a l r.1)
          | inr g ↦ absurd (precedes_itself line a (precedes_trans line a load a p.1
              (far line P ls h q r.0 load a g e r.1)))
        ]
      ];
}

module _ (line : Line) (W P : Load → Type 0) (earlier : List Entry) (R : List Bool) (most c : ℕ) (cites : List ℕ) where
  pub not_uncovered : Covers line P earlier R most c cites → (load : Load)
      → IsUncovered line W P earlier R most c cites load → ⊥
  not_uncovered h load u =
      let q : (k : ℕ) × (slice_get h.loads k ≡ Some load) = h.listed.complete load u.needs in
      let same : take q.0 h.loads ≡ u.before.1.loads = unique line (take q.0 h.loads) u.before.1.loads
      (λ k. P k × Precedes line k load)
      (firsts line P h.loads h.listed q.0 load q.1) u.before.1.listed in
      let within : q.0 < length h.loads = slice_get_within h.loads q.0 load q.1 in
      let long : q.0 ≡ u.taken = omega (
        arith,
        ap (λ (z : List Load). length z) same,
        u.before.1.as_many,
        length-take u.taken cites,
        length-take q.0 h.loads,
        u.before.0,
        within,
      ) in
      let x : (x : ℕ) × (slice_get cites q.0 ≡ Some x) = get_some cites q.0 (omega (arith, h.as_many, within)) in
      let Q : ℕ → Type 0 = λ z. slice_get cites z ≡ Some x.0 in
      u.fails x.0 (subst Q long x.1) (h.cited q.0 x.0 load x.1 q.1)

  pub not_spare : Covers line P earlier R most c cites → IsSpare line W P earlier R most c cites → ⊥
  not_spare h s =
      let same : h.loads ≡ s.covers.loads = unique line h.loads s.covers.loads P h.listed s.covers.listed in
      omega (
        arith,
        ap (λ (z : List Load). length z) same,
        h.as_many,
        s.covers.as_many,
        length-take s.taken cites,
        s.left,
      )

  -- so many loads up to one that is walked are at most all that are walked
  pub counts_up : (load : Load) (units all : ℕ) → W load → CountsTo line W P earlier R most c cites load units
      → Counts line W all → units ≤ all
  counts_up load units all walked to h =
      let q : (k : ℕ) × (slice_get h.loads k ≡ Some load) = h.listed.complete load walked in
      let within : q.0 < length h.loads = slice_get_within h.loads q.0 load q.1 in
      let before : Lists line (λ k. W k × Precedes line k load) (take q.0 h.loads) =
      firsts line W h.loads h.listed q.0 load q.1 in
      let up : Counts line (λ k. W k × UpTo line (Some load) k) (q.0 + 1) =
      counts_push line (λ k. W k × Precedes line k load) (λ k. W k × UpTo line (Some load) k) q.0 load
      (λ k p. (p.0, inr p.1)) (walked, inl refl) (λ k p. p.1)
      (λ k p. elim p.1 [ inl e ↦ inr e | inr b ↦ inl (p.0, b) ])
      (record {
        loads = take q.0 h.loads;
        listed = before;
        long = omega (arith, length-take q.0 h.loads, within);
      }) in
      let same : to.loads ≡ up.loads = unique line to.loads up.loads (λ k. W k × UpTo line (Some load) k) to.listed
      up.listed in
      omega (arith, ap (λ (z : List Load). length z) same, up.long, to.long, h.long, within)

  -- a walk that is past its steps goes over more loads than these
  pub not_past : (steps all : ℕ) → IsPast line W P earlier R most c cites steps → Counts line W all → steps < all
  not_past steps all p h = omega (arith, counts_up p.load (steps + 1) all p.walked p.counts h)
