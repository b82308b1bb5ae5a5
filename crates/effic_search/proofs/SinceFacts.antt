-- The entries of a cycle behind the last one of all tasks, as entries are added.
use Rattle.std.proofs.Common.{◌≡◌, ℕ, ◌+◌, List, [], ◌∷◌, ◌++◌, length, refl, sym, ap, ◌∙◌, subst, inl, inr, Some}
use Rattle.std.proofs.Common.{append_assoc}
use Rattle.std.specs.Prelude.{slice_get}
use Rattle.std.proofs.lemmas.List.{append-nil}
use Rattle.line_instance.specs.Line.{Line}
use Rattle.line_rules.specs.Balance.{all_tasks}
use Rattle.line_rules.specs.Units.{UnitsOf, entries_at}
use Rattle.line_rules.specs.declared.types.Entry.{Entry}
use Rattle.station_search.proofs.Events.{get_append_cases}
use Rattle.round_helpers.specs.Growth.{AreAtCycle}
use Rattle.cycle_search.proofs.BehindFacts.{none_at}
use Rattle.effic_search.specs.Since.{IsSinceGoal}
use Rattle.effic_search.proofs.ListFacts.{get_behind}
use Rattle.cycle_search.proofs.about_rounds.Endings.{at_both, all_at, units_front, units_some}
use Rattle.line_rules.proofs.ListUnits.{units_both}

-- nothing is behind an entry of all tasks at the end
pub since_goal : (line : Line) (X : ℕ) (es more : List Entry) (e : Entry) → es ≡ more ++ e ∷ [] → e.cycle ≡ X
    → e.set ≡ all_tasks line → IsSinceGoal line X es []
since_goal line X es more e q c s = record {
  before = es;
  behind = [];
  all = sym (append-nil es);
  goal = inr (more, e, q, c, s);
  last = λ k x g. absurd (cc);
  are = refl;
}

-- no entry at all
pub since_none : (line : Line) (X : ℕ) → IsSinceGoal line X [] []
since_none line X = record {
  before = [];
  behind = [];
  all = refl;
  goal = inl refl;
  last = λ k x g. absurd (cc);
  are = refl;
}

-- entries of other cycles are added
pub since_other : (line : Line) (X : ℕ) (es more since : List Entry)
    → ((k : ℕ) (e : Entry) → slice_get more k ≡ Some e → e.cycle ≡ X → ⊥) → IsSinceGoal line X es since
    → IsSinceGoal line X (es ++ more) since
since_other line X es more since none s = record {
  before = s.before;
  behind = s.behind ++ more;
  all = ap (λ (z : List Entry). z ++ more) s.all ∙ append_assoc s.before s.behind more;
  goal = s.goal;
  last = λ k e g c q. elim (get_append_cases s.behind more k e g) [
    | inl a ↦ s.last k e a c q
    | inr b ↦ none b.0 e b.1 c
  ];
  are =
      let here : entries_at X (s.behind ++ more) ≡ entries_at X s.behind =
      at_both X s.behind more
      ∙ (ap (λ (z : List Entry). entries_at X s.behind ++ z) (none_at X more none)
      ∙ append-nil (entries_at X s.behind)) in
      s.are ∙ sym here;
}

-- entries of the cycle are added, none of all tasks
pub since_more : (line : Line) (X : ℕ) (es more : List Entry) → AreAtCycle X more
    → ((k : ℕ) (e : Entry) → slice_get more k ≡ Some e → e.set ≡ all_tasks line → ⊥) → IsSinceGoal line X es []
    → IsSinceGoal line X (es ++ more) more
since_more line X es more at none s = record {
  before = s.before;
  behind = s.behind ++ more;
  all = ap (λ (z : List Entry). z ++ more) s.all ∙ append_assoc s.before s.behind more;
  goal = s.goal;
  last = λ k e g c q. elim (get_append_cases s.behind more k e g) [
    | inl a ↦ s.last k e a c q
    | inr b ↦ none b.0 e b.1 q
  ];
  are =
      let here : entries_at X (s.behind ++ more) ≡ more =
      at_both X s.behind more
      ∙ (ap (λ (z : List Entry). z ++ entries_at X more) (sym s.are) ∙ all_at X more at) in
      sym here;
}

-- the second of two lists is at a cycle where both are
pub at_behind : (X : ℕ) (xs ys : List Entry) → AreAtCycle X (xs ++ ys) → AreAtCycle X ys
at_behind X xs ys both k e g = both (k + length xs) e (get_behind xs ys k (k + length xs) e g refl)

-- entries at a cycle have their units more there than the entries before them
pub units_at_end : (X : ℕ) (line : Line) (es before since : List Entry) (all published : ℕ) → es ≡ before ++ since
    → AreAtCycle X since → UnitsOf line es all → UnitsOf line since published
    → (more : ℕ) × UnitsOf line (entries_at X es) (more + published)
units_at_end X line es before since all published is at u p =
    let U : List Entry → Type 0 = λ z. UnitsOf line z all in
    let first : (a : ℕ) × UnitsOf line before a = units_front line before since all (subst U is u) in
    let some : (b : ℕ) × UnitsOf line (entries_at X before) b = units_some line X before first.0 first.1 in
    let V : List Entry → Type 0 = λ z. UnitsOf line z (some.0 + published) in
    let here : entries_at X before ++ since ≡ entries_at X es =
    ap (λ (z : List Entry). entries_at X before ++ z) (sym (all_at X since at))
    ∙ (sym (at_both X before since) ∙ ap (λ (z : List Entry). entries_at X z) (sym is)) in
    (some.0, subst V here (units_both line (entries_at X before) since some.0 published some.1 p))
