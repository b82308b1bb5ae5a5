-- What was found refutes the hull, as the rows say who conflicts where all that lies between is there.
use Rattle.std.proofs.Common.{◌≡◌, ◌≢◌, ℕ, ◌+◌, ◌*◌, ◌<◌, ◌≤◌, Bool, true, ◌&&◌, List, [], length, get_or, refl, sym}
use Rattle.std.proofs.Common.{◌∙◌, subst, inl, inr, arith}
use Rattle.std.proofs.lemmas.Bool.{false≢true, and_parts, and_from}
use Rattle.line_instance.specs.Truths.{In, IsSubset, union, meet, full_to, count}
use Rattle.line_instance.specs.Line.{Line, IsTaskSet, tasks, has}
use Rattle.line_instance.proofs.Members.{In-union_left, In-union_right, In-union_cases, In-meet_parts}
use Rattle.line_instance.proofs.Sums.{weigh-le, sum_where-le}
use Rattle.line_rules.specs.declared.types.LineKind.{LineKind}
use Rattle.line_rules.specs.declared.types.LineKind.TheVariants.{Straight, U}
use Rattle.line_rules.specs.Pairs.{is_between, time_between, Conflict, IsOne, IsRefutedByPairs}
use Rattle.line_rules.proofs.PairGrowth.{singles, are_singles}
use Rattle.line_rules.proofs.PairSharing.{weigh-count}
use Rattle.pair_search.specs.Sharing.{Sharing, IsTableOf}
use Rattle.pair_search.specs.inner.Ones.{AreOnes}

-- all that lies between some tasks is in hull
abbrev pub IsClosed : LineKind → Line → List Bool → List Bool → Type 0
IsClosed kind line some hull =
    kind ≡ Straight → (i j k : ℕ) → In some i → In some j → is_between line i j k ≡ true → In hull k

between_in : (kind : LineKind) (line : Line) (all hull : List Bool) (i j : ℕ)
    → (kind ≡ Straight → (k : ℕ) → is_between line i j k ≡ true → In hull k)
    → time_between kind line all i j ≤ time_between kind line hull i j
unfolding time_between
between_in Straight line all hull i j h = sum_where-le (λ k. has all k && is_between line i j k)
    (λ k. has hull k && is_between line i j k)
    (λ k e. let q : In all k × (is_between line i j k ≡ true) = and_parts (has all k) (is_between line i j k) e in
    and_from (has hull k) (is_between line i j k) (h refl k q.1) q.1) line.times
between_in U line all hull i j h = omega arith

-- tasks that conflict in the set of all tasks conflict in the hull
conflict_in : (kind : LineKind) (line : Line) (c : ℕ) (all hull : List Bool) (i j : ℕ)
    → (kind ≡ Straight → (k : ℕ) → is_between line i j k ≡ true → In hull k) → Conflict kind line c all i j
    → Conflict kind line c hull i j
conflict_in kind line c all hull i j h x = elim x [
  | inl a ↦ inl a
  | inr l ↦ inr (omega (arith, l, between_in kind line all hull i j h))
]

-- some of the tasks `one` are enough
enough : (kind : LineKind) (line : Line) (c : ℕ) (R : List Bool) (most : ℕ) (two one : List Bool) → IsTaskSet line R
    → length two ≡ 1024 → IsSubset two R → ((i j : ℕ) → In two i → In two j → i ≢ j → Conflict kind line c R i j)
    → ((j : ℕ) → In one j → IsOne kind line c R two j) → 2 * most < 2 * count two + count one
    → IsRefutedByPairs kind line c R most two
enough kind line c R most two one set truths within conflict ones more =
    let now : List Bool = singles kind line c R two in
    let are = are_singles kind line c R two set in
    let sub : (j : ℕ) → In one j → In now j = λ j m. (are.members j).1 (ones j m) in
    record {
      truths = truths;
      within = within;
      conflict = conflict;
      one = now;
      ones = are;
      exceeds = omega (
        arith,
        more,
        weigh-count 1 one line.times (λ j m. set.tasks j (ones j m).member),
        weigh-count 1 now line.times (λ j m. set.tasks j ((are.members j).0 m).member),
        weigh-le (λ t. 1) (has one) (has now) sub line.times,
      );
    }

-- what was found are tasks of the set
pub found_tasks : {rows : List (List Bool)} {two one : List Bool} (line : Line) (R long items asked both : List Bool)
    → IsTaskSet line R → items ≡ meet R long → two ≡ meet items asked → AreOnes rows items two one
    → both ≡ union two one → length both ≡ 1024 → IsTaskSet line both
found_tasks {rows} {two} {one} line R long items asked both set e f ones g l =
    let item : (j : ℕ) → In items j → j < tasks line = λ j m. set.tasks j
    (In-meet_parts R long j (let P : List Bool → Type 0 = λ s. In s j in subst P e m)).0 in
    record {
      truths = l;
      tasks = λ j m. elim (In-union_cases two one j (let P : List Bool → Type 0 = λ s. In s j in subst P g m)) [
        | inl t ↦ item j (In-meet_parts items asked j (let P : List Bool → Type 0 = λ s. In s j in subst P f t)).0
        | inr o ↦ item j (ones.within j o).0
      ];
    }

module _ {line : Line} {t : Sharing} (of : IsTableOf line t) (R items asked two one both hull : List Bool) (most : ℕ)
    (set : IsTaskSet line R) (are_items : items ≡ meet R t.long) (are_two : two ≡ meet items asked)
    (ones : AreOnes t.rows items two one) (are_both : both ≡ union two one) (within : IsSubset both hull)
    (closed : IsClosed t.kind line both hull) (truths : length hull ≡ 1024) (sub : IsSubset hull R)
    (two_truths : length two ≡ 1024) where
  item : (j : ℕ) → In items j → In t.long j
  item j m = (In-meet_parts R t.long j (let P : List Bool → Type 0 = λ s. In s j in subst P are_items m)).1

  two_item : (j : ℕ) → In two j → In items j
  two_item j m = (In-meet_parts items asked j (let P : List Bool → Type 0 = λ s. In s j in subst P are_two m)).0

  two_both : (j : ℕ) → In two j → In both j
  two_both j m =
      let P : List Bool → Type 0 = λ s. In s j in subst P (sym are_both) (In-union_left two one j m)

  one_both : (j : ℕ) → In one j → In both j
  one_both j m =
      let P : List Bool → Type 0 = λ s. In s j in subst P (sym are_both) (In-union_right two one j m)

  -- a task of two conflicts in the hull with each other one that was found
  clash : (i j : ℕ) → In two i → In both j → In t.long j → j ≢ i → (In (get_or t.rows i []) j → ⊥)
      → Conflict t.kind line t.cycle hull i j
  clash i j mi mj l n none = conflict_in t.kind line t.cycle (full_to (tasks line)) hull i j
      (λ e k b. closed e i j k (two_both i mi) mj b)
      ((of.row i (item i (two_item i mi))).conflict j l n none)

  pub found : 2 * most < 2 * count two + count one → IsRefutedByPairs t.kind line t.cycle hull most two
  found more = enough t.kind line t.cycle hull most two one
      (record { truths = truths; tasks = λ j m. set.tasks j (sub j m) }) two_truths
      (λ j m. within j (two_both j m))
      (λ i j mi mj n. clash i j mi (two_both j mj) (item j (two_item j mj)) (λ e. n (sym e)) (ones.apart i j mi mj))
      (λ j m. record {
        member = within j (one_both j m);
        outside = λ k. false≢true (sym (ones.within j m).1 ∙ k);
        long = ((of.long.members j).0 (item j (ones.within j m).0)).1;
        conflicts = λ i mi. clash i j mi (one_both j m) (item j (ones.within j m).0)
            (λ e. false≢true (sym (ones.within j m).1 ∙ (let P : ℕ → Type 0 = λ k. In two k in subst P (sym e) mi)))
            (ones.ones i j mi m);
      })
      more
