-- What a book gained by a question: it stands behind the entries that are counted, and has the units of the question.
use Rattle.std.proofs.Common.{◌≡◌, ℕ, ◌+◌, ◌≤◌, List, ◌++◌, length, take, drop, refl, sym, ap, ◌∙◌, subst, Some, arith}
use Rattle.std.specs.Prelude.{slice_get}
use Rattle.std.proofs.Math.Seq.{take-length, take-append_seam, drop-append_seam}
use Rattle.line_instance.specs.Line.{Line}
use Rattle.line_rules.specs.Balance.{all_tasks}
use Rattle.line_rules.specs.Units.{UnitsOf}
use Rattle.line_rules.specs.declared.types.Entry.{Entry}
use Rattle.line_rules.specs.declared.types.Why.TheVariants as why
use Rattle.effic_search.specs.Counted.{AreGoalsByBound, IsCounted, bounds, others}
use Rattle.effic_search.specs.declared.counting.Listed.{Listed}
use Rattle.effic_search.proofs.CountFacts.{bounds_both}
use Rattle.effic_search.proofs.ListFacts.{get_behind}

module _ (line : Line) (old es gained : List Entry) (from : ℕ) (is : es ≡ old ++ gained)
    (count : from ≡ length old) where
  -- what was counted is counted
  pub counted_before : (l : Listed) → IsCounted line old (length old) l → IsCounted line es from l
  counted_before l c =
      let seam : take from es ≡ old = (λ i. take (count i) (is i)) ∙ take-append_seam old gained in
      let same : take (length old) old ≡ take from es = take-length old ∙ sym seam in
      let U : List Entry → Type 0 = λ z. UnitsOf line z l.units in
      record {
        entries = c.entries ∙ ap (λ (z : List Entry). others z) same;
        units = subst U same c.units;
      }

  -- what is left has the units that were listed
  pub units_behind : (published : ℕ) → UnitsOf line gained published → UnitsOf line (drop from es) published
  units_behind published u =
      let seam : drop from es ≡ gained = (λ i. drop (count i) (is i)) ∙ drop-append_seam old gained in
      let U : List Entry → Type 0 = λ z. UnitsOf line z published in
      subst U (sym seam) u

  -- what is left by Bound is of all tasks where each from its number on is
  pub goals_behind : ((k : ℕ) (e : Entry) → from ≤ k → slice_get es k ≡ Some e → e.why ≡ why.Bound
      → e.set ≡ all_tasks line) → AreGoalsByBound line gained
  goals_behind are k e g b =
      let P : List Entry → Type 0 = λ z. slice_get z (k + length old) ≡ Some e in
      are (k + length old) e (omega (arith, count))
      (subst P (sym is) (get_behind old gained k (k + length old) e g refl)) b

  -- what is left has few by Bound where all have few more than those before
  pub few_behind : (most : ℕ) → bounds es ≤ bounds (take from es) + most → bounds gained ≤ most
  few_behind most few =
      let seam : take from es ≡ old = (λ i. take (count i) (is i)) ∙ take-append_seam old gained in
      omega (
        arith,
        few,
        ap (λ (z : List Entry). bounds z) seam,
        ap (λ (z : List Entry). bounds z) is,
        bounds_both old gained,
      )
