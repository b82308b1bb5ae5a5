-- What follows by pairs does so with each larger set: conflicts stay, and the tasks `one` become no fewer.
use Rattle.std.proofs.Common.{◌≡◌, ℕ, zero, suc, ◌+◌, ◌*◌, ◌≤◌, Bool, true, false, cond, ◌&&◌, ◌||◌, not, nat_lt}
use Rattle.std.proofs.Common.{List, [], ◌∷◌, refl, sym, ap, ◌∙◌, inl, inr, arith}
use Rattle.std.proofs.lemmas.Bool.{and_parts, and_from, or_cases, or_left, or_right, lt-ltb, ltb-true, false≢true}
use Rattle.std.proofs.lemmas.Bool.{not-true, false_from_ne_true}
use Rattle.line_instance.specs.Truths.{In, IsSubset}
use Rattle.line_instance.specs.Line.{Line, IsTaskSet, time, has, is_apart}
use Rattle.line_instance.proofs.Counts.{same_members}
use Rattle.line_instance.proofs.Members.{keep, length-keep, In-keep, In-keep_parts}
use Rattle.line_instance.proofs.Sums.{weigh-le, sum_where-le}
use Rattle.line_rules.specs.declared.types.LineKind.{LineKind}
use Rattle.line_rules.specs.declared.types.LineKind.TheVariants.{Straight, U}
use Rattle.line_rules.specs.Pairs.{is_between, time_between, Conflict, IsOne, AreOne, IsRefutedByPairs}
use Rattle.line_rules.proofs.PairSharing.{weigh-count}

-- more lies between two tasks in a larger set
between_more : (kind : LineKind) (line : Line) (R S : List Bool) (i j : ℕ) → IsSubset R S
    → time_between kind line R i j ≤ time_between kind line S i j
unfolding time_between
between_more Straight line R S i j sub = sum_where-le (λ k. has R k && is_between line i j k)
    (λ k. has S k && is_between line i j k)
    (λ k e. let q : In R k × (is_between line i j k ≡ true) = and_parts (has R k) (is_between line i j k) e in
    and_from (has S k) (is_between line i j k) (sub k q.0) q.1) line.times
between_more U line R S i j sub = omega arith

-- tasks that conflict in a set conflict in each larger one
pub conflict_more : (kind : LineKind) (line : Line) (c : ℕ) (R S : List Bool) (i j : ℕ) → IsSubset R S
    → Conflict kind line c R i j → Conflict kind line c S i j
conflict_more kind line c R S i j sub x = elim x [
  | inl a ↦ inl a
  | inr l ↦ inr (omega (arith, l, between_more kind line R S i j sub))
]

-- whether a test holds of each member
each : (ℕ → Bool) → List Bool → Bool
each f [] = true
each f (b ∷ bs) = cond b (f 0) true && each (λ i. f (suc i)) bs

each_of : (f : ℕ → Bool) (s : List Bool) → each f s ≡ true → (i : ℕ) → In s i → f i ≡ true
unfolding each
each_of f [] e i m = absurd (false≢true m)
each_of f (true ∷ bs) e zero m = (and_parts (f 0) (each (λ i. f (suc i)) bs) e).0
each_of f (false ∷ bs) e zero m = absurd (false≢true m)
each_of f (b ∷ bs) e (suc i) m =
    each_of (λ k. f (suc k)) bs (and_parts (cond b (f 0) true) (each (λ k. f (suc k)) bs) e).1 i m

each_from : (f : ℕ → Bool) (s : List Bool) → ((i : ℕ) → In s i → f i ≡ true) → each f s ≡ true
unfolding each
each_from f [] h = refl
each_from f (true ∷ bs) h = and_from (f 0) (each (λ i. f (suc i)) bs) (h 0 refl)
    (each_from (λ i. f (suc i)) bs (λ i m. h (suc i) m))
each_from f (false ∷ bs) h = each_from (λ i. f (suc i)) bs (λ i m. h (suc i) m)

module _ (kind : LineKind) (line : Line) (c : ℕ) (S two : List Bool) where
  -- whether two tasks conflict
  collide : ℕ → ℕ → Bool
  collide i j = is_apart line i j || nat_lt c (time line i + time line j + time_between kind line S i j)

  collide_true : (i j : ℕ) → Conflict kind line c S i j → collide i j ≡ true
  unfolding collide
  collide_true i j x =
      let most : ℕ = time line i + time line j + time_between kind line S i j in
      elim x [
        | inl a ↦ or_left (is_apart line i j) (nat_lt c most) a
        | inr l ↦ or_right (is_apart line i j) (nat_lt c most) (lt-ltb c most l)
      ]

  collide_of : (i j : ℕ) → collide i j ≡ true → Conflict kind line c S i j
  unfolding collide
  collide_of i j e =
      let most : ℕ = time line i + time line j + time_between kind line S i j in
      elim (or_cases (is_apart line i j) (nat_lt c most) e) [
        | inl a ↦ inl a
        | inr l ↦ inr (ltb-true c most l)
      ]

  -- whether a task of S is one of the tasks `one`
  single : ℕ → Bool
  single j = not (has two j) && (nat_lt c (3 * time line j) && each (λ i. collide i j) two)

  single_true : (j : ℕ) → IsOne kind line c S two j → single j ≡ true
  unfolding single
  single_true j o =
      let far : nat_lt c (3 * time line j) ≡ true = lt-ltb c (3 * time line j) o.long in
      let all : each (λ i. collide i j) two ≡ true =
      each_from (λ i. collide i j) two (λ i m. collide_true i j (o.conflicts i m)) in
      and_from (not (has two j)) (nat_lt c (3 * time line j) && each (λ i. collide i j) two)
      (ap not (false_from_ne_true (has two j) o.outside))
      (and_from (nat_lt c (3 * time line j)) (each (λ i. collide i j) two) far all)

  single_of : (j : ℕ) → In S j → single j ≡ true → IsOne kind line c S two j
  unfolding single
  single_of j m e =
      let q : (not (has two j) ≡ true) × ((nat_lt c (3 * time line j) && each (λ i. collide i j) two) ≡ true) =
      and_parts (not (has two j)) (nat_lt c (3 * time line j) && each (λ i. collide i j) two) e in
      let p : (nat_lt c (3 * time line j) ≡ true) × (each (λ i. collide i j) two ≡ true) =
      and_parts (nat_lt c (3 * time line j)) (each (λ i. collide i j) two) q.1 in
      record {
        member = m;
        outside = λ t. false≢true (sym (not-true (has two j) q.0) ∙ t);
        long = ltb-true c (3 * time line j) p.0;
        conflicts = λ i t. collide_of i j (each_of (λ k. collide k j) two p.1 i t);
      }

  -- these tasks, as a set
  pub singles : List Bool
  singles = keep single S

  pub are_singles : IsTaskSet line S → AreOne kind line c S two singles
  unfolding singles
  are_singles set = record {
    truths = length-keep single S ∙ set.truths;
    members = λ j. (
      λ m. let q : In S j × (single j ≡ true) = In-keep_parts single S j m in single_of j q.0 q.1,
      λ o. In-keep single S j o.member (single_true j o),
    );
  }

-- there is one set of the tasks `one`
pub one_set : (kind : LineKind) (line : Line) (c : ℕ) (R two a b : List Bool) → AreOne kind line c R two a
    → AreOne kind line c R two b → a ≡ b
one_set kind line c R two a b f g = same_members a b f.truths g.truths (λ i.
    (λ m. (g.members i).1 ((f.members i).0 m), λ m. (f.members i).1 ((g.members i).0 m)))

-- a task `one` stays one
one_more : (kind : LineKind) (line : Line) (c : ℕ) (R S two : List Bool) (j : ℕ) → IsSubset R S
    → IsOne kind line c R two j → IsOne kind line c S two j
one_more kind line c R S two j sub o = record {
  member = sub j o.member;
  outside = o.outside;
  long = o.long;
  conflicts = λ i m. conflict_more kind line c R S i j sub (o.conflicts i m);
}

pub grow : (kind : LineKind) (line : Line) (c : ℕ) (R S : List Bool) (most : ℕ) (two : List Bool) → IsTaskSet line S
    → IsSubset R S → IsRefutedByPairs kind line c R most two → IsRefutedByPairs kind line c S most two
grow kind line c R S most two set sub h =
    let now : List Bool = singles kind line c S two in
    let are : AreOne kind line c S two now = are_singles kind line c S two set in
    let more : (j : ℕ) → In h.one j → In now j = λ j m.
    (are.members j).1 (one_more kind line c R S two j sub ((h.ones.members j).0 m)) in
    record {
      truths = h.truths;
      within = λ i m. sub i (h.within i m);
      conflict = λ i j m n d. conflict_more kind line c R S i j sub (h.conflict i j m n d);
      one = now;
      ones = are;
      exceeds = omega (
        arith,
        h.exceeds,
        weigh-count 1 h.one line.times (λ j m. set.tasks j ((are.members j).0 (more j m)).member),
        weigh-count 1 now line.times (λ j m. set.tasks j ((are.members j).0 m).member),
        weigh-le (λ t. 1) (has h.one) (has now) more line.times,
      );
    }
