-- What lies between two tasks, and that conflicts go both ways.
use Rattle.std.proofs.Common.{◌≡◌, ℕ, Bool, true, ◌&&◌, List, length, sym, ap, ◌∙◌, subst, inl, inr}
use Rattle.std.proofs.Common.{◌↔◌, arith}
use Rattle.std.proofs.lemmas.Bool.{and_parts, and_from, or_cases, or_left, or_right}
use Rattle.line_instance.specs.Truths.{In, union, meet}
use Rattle.line_instance.specs.Line.{Line, IsLine, IsTaskSet, Before, has, is_before}
use Rattle.line_instance.specs.Sums.{sum_where}
use Rattle.line_instance.proofs.Members.{In-union_left, In-union_right, In-union_cases, In-meet, In-meet_parts}
use Rattle.line_instance.proofs.Sums.{weigh-same, same_truth}
use Rattle.line_rules.specs.declared.types.LineKind.{LineKind}
use Rattle.line_rules.specs.declared.types.LineKind.TheVariants.{Straight, U}
use Rattle.line_rules.specs.Pairs.{is_between, time_between, Conflict}

-- what a set of tasks has in common with another set is a set of tasks
pub met_tasks : (line : Line) (R all s : List Bool) → IsTaskSet line R → s ≡ meet R all → length s ≡ 1024
    → IsTaskSet line s
met_tasks line R all s set e l = record {
  truths = l;
  tasks = λ k m. let P : List Bool → Type 0 = λ q. In q k in set.tasks k (In-meet_parts R all k (subst P e m)).0;
}

-- on a U-line nothing counts
pub none_between : (kind : LineKind) → kind ≡ U → (line : Line) (R : List Bool) (i j : ℕ)
    → 0 ≡ time_between kind line R i j
unfolding time_between
none_between kind e line R i j = ap (λ k. time_between k line R i j) (sym e)

-- by the rows of the two tasks
module _ (line : Line) (R : List Bool) (i j : ℕ) (after_i before_j after_j before_i : List Bool)
    (ai : (k : ℕ) → In after_i k ↔ Before line i k) (bj : (k : ℕ) → In before_j k ↔ Before line k j)
    (aj : (k : ℕ) → In after_j k ↔ Before line j k) (bi : (k : ℕ) → In before_i k ↔ Before line k i) where
  all : List Bool
  all = union (meet after_i before_j) (meet after_j before_i)

  in_all : (k : ℕ) → is_between line i j k ≡ true → In all k
  unfolding all
  in_all k e = elim (or_cases (is_before line i k && is_before line k j) (is_before line j k && is_before line k i) e) [
    | inl l ↦ (
        let q : Before line i k × Before line k j = and_parts (is_before line i k) (is_before line k j) l in
        In-union_left (meet after_i before_j) (meet after_j before_i) k
        (In-meet after_i before_j k ((ai k).1 q.0) ((bj k).1 q.1))
        )
    | inr l ↦ (
        let q : Before line j k × Before line k i = and_parts (is_before line j k) (is_before line k i) l in
        In-union_right (meet after_i before_j) (meet after_j before_i) k
        (In-meet after_j before_i k ((aj k).1 q.0) ((bi k).1 q.1))
        )
  ]

  of_all : (k : ℕ) → In all k → is_between line i j k ≡ true
  unfolding all
  of_all k m = elim (In-union_cases (meet after_i before_j) (meet after_j before_i) k m) [
    | inl l ↦ (
        let q : In after_i k × In before_j k = In-meet_parts after_i before_j k l in
        or_left (is_before line i k && is_before line k j) (is_before line j k && is_before line k i)
        (and_from (is_before line i k) (is_before line k j) ((ai k).0 q.0) ((bj k).0 q.1))
        )
    | inr l ↦ (
        let q : In after_j k × In before_i k = In-meet_parts after_j before_i k l in
        or_right (is_before line i k && is_before line k j) (is_before line j k && is_before line k i)
        (and_from (is_before line j k) (is_before line k i) ((aj k).0 q.0) ((bi k).0 q.1))
        )
  ]

  pub between_sum : (kind : LineKind) → kind ≡ Straight → (s : List Bool)
      → s ≡ meet R (union (meet after_i before_j) (meet after_j before_i))
      → sum_where (has s) line.times ≡ time_between kind line R i j
  unfolding time_between all
  between_sum kind straight s e =
      let picks : ℕ → Bool = λ k. has R k && is_between line i j k in
      ap (λ q. sum_where (has q) line.times) e
      ∙ weigh-same (λ t. t) (has (meet R all)) picks
      (λ k. same_truth (has (meet R all) k) (picks k)
      (λ m. let q : In R k × In all k = In-meet_parts R all k m in
      and_from (has R k) (is_between line i j k) q.0 (of_all k q.1))
      (λ p. let q : In R k × (is_between line i j k ≡ true) = and_parts (has R k) (is_between line i j k) p in
      In-meet R all k q.0 (in_all k q.1))) line.times
      ∙ ap (λ k. time_between k line R i j) (sym straight)

-- what lies between i and j lies between j and i
turned : (line : Line) (i j k : ℕ) → is_between line i j k ≡ true → is_between line j i k ≡ true
turned line i j k e = elim (or_cases (is_before line i k && is_before line k j)
    (is_before line j k && is_before line k i) e) [
      | inl l ↦ or_right (is_before line j k && is_before line k i) (is_before line i k && is_before line k j) l
      | inr l ↦ or_left (is_before line j k && is_before line k i) (is_before line i k && is_before line k j) l
    ]

same_between : (kind : LineKind) (line : Line) (R : List Bool) (i j : ℕ)
    → time_between kind line R i j ≡ time_between kind line R j i
unfolding time_between
same_between Straight line R i j = weigh-same (λ t. t) (λ k. has R k && is_between line i j k)
    (λ k. has R k && is_between line j i k)
    (λ k. ap (λ b. has R k && b) (same_truth (is_between line i j k) (is_between line j i k) (turned line i j k)
    (turned line j i k))) line.times
same_between U line R i j = omega arith

-- two tasks conflict both ways
pub both_conflict : (kind : LineKind) (line : Line) (c : ℕ) (R : List Bool) (i j : ℕ) → IsLine line
    → Conflict kind line c R i j → Conflict kind line c R j i
both_conflict kind line c R i j ok x = elim x [
  | inl a ↦ inl (ok.both_ways i j a)
  | inr l ↦ inr (omega (arith, l, same_between kind line R i j))
]
