-- Whether a task may join a side, asked at its places from the last one down.
use Rattle.std.proofs.Common.{◌≡◌, ℕ, ◌<◌, ◌≤◌, Bool, List, sym, subst, inl, inr, arith}
use Rattle.std.proofs.lemmas.Bool.{cases_lt}
use Rattle.line_instance.specs.Truths.{In, IsGreatestBelow}
use Rattle.line_instance.specs.Line.{Line, IsRanked, IsTaskSet, tasks}
use Rattle.line_rules.specs.declared.types.Side.{Side}
use Rattle.line_rules.specs.declared.types.Load.{Load}
use Rattle.line_rules.specs.Sides.{MayJoin, pair_at, task_at}
use Rattle.line_rules.specs.Ends.{IsEnd}
use Rattle.line_rules.proofs.SideFacts.{task_placed}
use Rattle.line_rules.proofs.JoinTests.{free_where_may}

-- at none of the places from here on a task may join
pub record NoneAtFrom (line : Line) (c : ℕ) (R : List Bool) (s : Side) (l : Load) (below : ℕ) : Type 0 where
  pub low : below ≤ tasks line
  pub none : (p : ℕ) → below ≤ p → p < tasks line → MayJoin line c R s l (task_at line s p) → ⊥

pub none_yet : {line : Line} {c : ℕ} {R : List Bool} {s : Side} {l : Load} {below : ℕ} → below ≡ tasks line
    → NoneAtFrom line c R s l below
none_yet e = record { low = omega (arith, e); none = λ p g w may. omega (arith, e, g, w) }

module _ {line : Line} {s : Side} {R here free places : List Bool} (end : IsEnd line s R here free places) (c : ℕ)
    (others : List Bool) where
  marked_where_may : (p : ℕ) → p < tasks line → MayJoin line c R s (pair_at s here others) (task_at line s p)
      → In places p
  marked_where_may p w may = (end.marked.is p).1 (w, inr (free_where_may end c others (task_at line s p) may))

  -- a place is passed at which none may
  pub none_there : {below place t : ℕ} → NoneAtFrom line c R s (pair_at s here others) below
      → IsGreatestBelow places below place → t ≡ task_at line s place
      → (MayJoin line c R s (pair_at s here others) t → ⊥) → NoneAtFrom line c R s (pair_at s here others) place
  none_there {below} {place} {t} h found is cannot = record {
    low = omega (arith, h.low, found.below);
    none = λ p g w may. elim (cases_lt p below) [
      | inl under ↦
          let same : p ≡ place = omega (arith, g, found.greatest p (marked_where_may p w may) under) in
          let P : ℕ → Type 0 = λ q. MayJoin line c R s (pair_at s here others) (task_at line s q) in
          let Q : ℕ → Type 0 = λ i. MayJoin line c R s (pair_at s here others) i in
          cannot (subst Q (sym is) (subst P same may))
      | inr over ↦ h.none p over w may
    ];
  }

  -- no place is left
  pub none_at_all : {below : ℕ} → IsRanked line → IsTaskSet line R
      → NoneAtFrom line c R s (pair_at s here others) below → ((p : ℕ) → In places p → below ≤ p) → (i : ℕ)
      → MayJoin line c R s (pair_at s here others) i → ⊥
  none_at_all {below} ranked set h rest i may =
      let at = task_placed line ranked s i (set.tasks i may.within) in
      let P : ℕ → Type 0 = λ j. MayJoin line c R s (pair_at s here others) j in
      let there : MayJoin line c R s (pair_at s here others) (task_at line s at.0) = subst P (sym at.2) may in
      h.none at.0 (rest at.0 (marked_where_may at.0 at.1 there)) at.1 there
