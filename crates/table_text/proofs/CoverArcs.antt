-- Walks of arcs lead from one task to another exactly where the one is before the other, if there is an arc wherever a
-- task is directly before another, and none that doesn't go from a task before the other.
use Rattle.std.proofs.Common.{◌≡◌, ℕ, zero, suc, ◌+◌, ◌<◌, ◌≤◌, ◌&&◌, true, not, List, sym, ap}
use Rattle.std.proofs.Common.{subst, arith, inl, inr}
use Rattle.std.proofs.lemmas.Bool.{and_from, and_parts, cases_Bool}
use Rattle.line_instance.specs.declared.arcs.Prec.{Prec}
use Rattle.line_instance.specs.Line.{Line, IsLine, IsRanked, tasks, at_rank, is_before, Before}
use Rattle.line_instance.specs.Walks.{Leads, Walk, arc, on}
use Rattle.line_instance.proofs.InstanceFacts.{walk_on}
use Rattle.in2_reader.proofs.CollectedPairs.{first_task, last_task}
use Rattle.table_text.specs.TableText.{is_direct, some_below}
use Rattle.table_text.proofs.Below.{of_some}

-- What arcs of a line are: there is one wherever a task is directly before another, and each goes from a task before
-- the other.
pub record AreArcsOf (line : Line) (arcs : List Prec) : Type 0 where
  pub all : (i j : ℕ) → is_direct line j i ≡ true → i < tasks line → j < tasks line → Leads arcs i j
  pub right : (i j : ℕ) → Leads arcs i j → Before line i j

module _ (line : Line) (arcs : List Prec) (s : IsLine line) (r : IsRanked line) (c : AreArcsOf line arcs) where
  higher : (i j p q : ℕ) → p < tasks line → q < tasks line → at_rank line p ≡ i → at_rank line q ≡ j → Before line i j
      → p < q
  higher i j p q l h e f b =
      let P : ℕ → Type 0 = λ x. Before line x j in
      let Q : ℕ → Type 0 = λ x. Before line (at_rank line p) x in
      r.rises p q l h (subst Q (sym f) (subst P (sym e) b))

  walk_within : (room i j p q : ℕ) → p < tasks line → q < tasks line → at_rank line p ≡ i → at_rank line q ≡ j
      → q ≤ p + room → Before line i j → Walk arcs i j
  walk_within zero i j p q l h e f w b = let up : p < q = higher i j p q l h e f b in absurd (omega arith)
  walk_within (suc room) i j p q l h e f w b = elim (cases_Bool (some_below
      (λ k. is_before line i k && is_before line k j) (tasks line))) [
        | inl some ↦ (let m = of_some (λ k. is_before line i k && is_before line k j) (tasks line) some in
            let both = and_parts (is_before line i m.0) (is_before line m.0 j) m.2 in
            let first : Before line i m.0 = both.0 in
            let last : Before line m.0 j = both.1 in
            let k = r.rank m.0 m.1 in
            let up : p < k.0 = higher i m.0 p k.0 l k.1 e k.2 first in
            let down : k.0 < q = higher m.0 j k.0 q k.1 h k.2 f last in
            walk_on arcs (walk_within room i m.0 p k.0 l k.1 e k.2 (omega arith) first)
            (walk_within room m.0 j k.0 q k.1 h k.2 f (omega arith) last))
        | inr none ↦ arc (c.all i j
            (and_from (is_before line i j) (not (some_below (λ k. is_before line i k && is_before line k j)
            (tasks line))) b (ap not none))
            (first_task line i j s b) (last_task line i j s b))
      ]

  pub walk_of : (i j : ℕ) → Before line i j → Walk arcs i j
  walk_of i j b =
      let p = r.rank i (first_task line i j s b) in
      let q = r.rank j (last_task line i j s b) in
      walk_within (tasks line) i j p.0 q.0 p.1 q.1 p.2 q.2 (omega (arith, q.1)) b

  pub before_of : {i j : ℕ} → Walk arcs i j → Before line i j
  before_of {i} {j} (arc l) = c.right i j l
  before_of {i} {j} (on {j = m} w l) = s.leads_on i m j (before_of w) (c.right m j l)
