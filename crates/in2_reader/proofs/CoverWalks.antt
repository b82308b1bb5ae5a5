-- Walks of covering pairs lead from one task to another exactly where the one is before the other.
use Rattle.std.proofs.Common.{◌≡◌, ℕ, zero, suc, ◌+◌, ◌<◌, ◌≤◌, ◌&&◌, Bool, true, false, List, refl, sym, ◌∙◌, ap}
use Rattle.std.proofs.Common.{subst, arith, ◌⊎◌, inl, inr}
use Rattle.std.proofs.lemmas.Bool.{cases_lt, false≢true}
use Rattle.std.proofs.lemmas.List.{get_or_read}
use Rattle.line_instance.specs.declared.arcs.Prec.{Prec}
use Rattle.line_instance.specs.Line.{Line, IsLine, IsRanked, tasks, at_rank, is_before, Before}
use Rattle.line_instance.specs.Walks.{Leads, Walk, arc, on, arc_at}
use Rattle.in2_reader.specs.Written.{AreCovers}
use Rattle.in2_reader.proofs.CollectedPairs.{first_task, last_task}
use Rattle.line_instance.proofs.InstanceFacts.{walk_on}
use Rattle.line_io.proofs.ReadFacts.{right, left}

-- a number below n passes the test, or none does
search_below : (p : ℕ → Bool) (n : ℕ) → ((k : ℕ) × (k < n) × (p k ≡ true)) ⊎ ((k : ℕ) → k < n → p k ≡ false)
search_below p zero = inr (λ k l. absurd (omega arith))
search_below p (suc n) = elim (search_below p n) [
  | inl f ↦ inl (f.0, omega (arith, f.1), f.2)
  | inr none ↦ (let I : (b : Bool) → p n ≡ b → ((k : ℕ) × (k < suc n) × (p k ≡ true))
      ⊎ ((k : ℕ) → k < suc n → p k ≡ false) = elim [
        | true ↦ (λ e. inl (n, omega arith, e))
        | false ↦ (λ e. inr (λ k l. elim (cases_lt k n) [
          | inl h ↦ none k h
          | inr h ↦
              (let same : n ≡ k = omega arith in ap p (sym same) ∙ e)
        ]))
      ] in
      I (p n) refl)
]

module _ (line : Line) (ps : List Prec) (s : IsLine line) (r : IsRanked line) (c : AreCovers line ps) where
  higher : (i j p q : ℕ) → p < tasks line → q < tasks line → at_rank line p ≡ i → at_rank line q ≡ j → Before line i j
      → p < q
  higher i j p q l h e f b =
      let P : ℕ → Type 0 = λ x. Before line x j in
      let Q : ℕ → Type 0 = λ x. Before line (at_rank line p) x in
      r.rises p q l h (subst Q (sym f) (subst P (sym e) b))

  walk_within : (room i j p q : ℕ) → p < tasks line → q < tasks line → at_rank line p ≡ i → at_rank line q ≡ j
      → q ≤ p + room → Before line i j → Walk ps i j
  walk_within zero i j p q l h e f w b = let up : p < q = higher i j p q l h e f b in absurd (omega arith)
  walk_within (suc room) i j p q l h e f w b = elim (search_below (λ k. is_before line i k && is_before line k j)
      (tasks line)) [
        | inl m ↦ (let first : Before line i m.0 = left (is_before line i m.0) (is_before line m.0 j) m.2 in
            let last : Before line m.0 j = right (is_before line i m.0) (is_before line m.0 j) m.2 in
            let k = r.rank m.0 m.1 in
            let up : p < k.0 = higher i m.0 p k.0 l k.1 e k.2 first in
            let down : k.0 < q = higher m.0 j k.0 q k.1 h k.2 f last in
            walk_on ps (walk_within room i m.0 p k.0 l k.1 e k.2 (omega arith) first)
            (walk_within room m.0 j k.0 q k.1 h k.2 f (omega arith) last))
        | inr none ↦ arc (c.all i j (record {
          before = b;
          between = λ k v w. false≢true (sym (none k (first_task line k j s w))
              ∙ (ap (λ t. t && is_before line k j) v ∙ w));
        }))
      ]

  pub walk_of : (i j : ℕ) → Before line i j → Walk ps i j
  walk_of i j b =
      let p = r.rank i (first_task line i j s b) in
      let q = r.rank j (last_task line i j s b) in
      walk_within (tasks line) i j p.0 q.0 p.1 q.1 p.2 q.2 (omega (arith, q.1)) b

  arc_before : (i j : ℕ) → Leads ps i j → Before line i j
  arc_before i j l =
      let is : record { first = i; «then» = j } ≡ arc_at ps l.0 =
      get_or_read ps l.0 (record { first = i; «then» = j }) l.1 (sym l.2) (record { first = 0; «then» = 0 }) in
      let P : Prec → Type 0 = λ a. Before line a.first a.«then» in
      subst P (sym is) (c.right l.0 l.1).before

  pub before_of : {i j : ℕ} → Walk ps i j → Before line i j
  before_of {i} {j} (arc l) = arc_before i j l
  before_of {i} {j} (on {j = m} w l) = s.leads_on i m j (before_of w) (arc_before m j l)
