-- Chained tasks: those of a part are chained in the whole, and they alone decide how long the chains of a set are.
use Rattle.std.proofs.Common.{◌≡◌, ◌↔◌, ◌⊎◌, ℕ, zero, suc, ◌+◌, ◌-◌, ◌/◌, ◌<◌, ◌≤◌, max, Bool, true, false, cond}
use Rattle.std.proofs.Common.{◌&&◌, ◌||◌, nat_eq, List, [], ◌∷◌, length, replicate, set, sym, ap, ◌∙◌, subst}
use Rattle.std.proofs.Common.{inl, inr, arith}
use Rattle.std.proofs.lemmas.Bool.{false≢true, and_parts, and_from, cases_lt}
use Rattle.std.proofs.lemmas.Nat.{le-div}
use Rattle.std.proofs.Math.Nat.{div-mul-le_self}
use Rattle.line_instance.specs.Truths.{In, IsSubset, meet, members_from, members_of}
use Rattle.line_instance.proofs.Members.{In-meet, In-meet_parts, In-empty, In-set_same, In-set_kept, In-set_cases}
use Rattle.line_instance.specs.Line.{Line, IsTaskSet, has, is_before, tasks}
use Rattle.line_instance.proofs.Sums.{sum_where-le}
use Rattle.line_rules.specs.Bounds.{up, head, tail, chained, IsChained, greatest_below}
use Rattle.line_rules.specs.declared.types.LineKind.{LineKind}
use Rattle.line_rules.specs.declared.types.LineKind.TheVariants.{Straight, U}
use Rattle.line_rules.proofs.BoundIsTrue.{cond_le, greatest_le}
use Rattle.line_rules.proofs.SumsOverMembers.{greatest_of, greatest_listed, below_at}

-- more time needs no fewer stations
up_grows : (c x y : ℕ) → 1 ≤ c → x ≤ y → up x c ≤ up y c
up_grows c x y o l =
    le-div ((x + (c - 1)) / c) (y + (c - 1)) c (omega (arith, o))
    (omega (arith, div-mul-le_self (x + (c - 1)) c, l))

-- what holds of a part holds of the whole
part_of : (S R : List Bool) → IsSubset S R → (i : ℕ) (b : Bool) → (has S i && b) ≡ true → (has R i && b) ≡ true
part_of S R within i b e =
    let q : (has S i ≡ true) × (b ≡ true) = and_parts (has S i) b e in and_from (has R i) b (within i q.0) q.1

module _ (line : Line) (c : ℕ) (o : 1 ≤ c) (S R : List Bool) (within : IsSubset S R) (j : ℕ) where
  -- head and tail grow with the set
  head_grows : head line c S j ≤ head line c R j
  unfolding head
  head_grows = up_grows c _ _ o (sum_where-le (λ i. has S i && (nat_eq i j || is_before line i j))
      (λ i. has R i && (nat_eq i j || is_before line i j))
      (λ i. part_of S R within i (nat_eq i j || is_before line i j)) line.times)

  tail_grows : tail line c S j ≤ tail line c R j
  unfolding tail
  tail_grows = up_grows c _ _ o (sum_where-le (λ i. has S i && (nat_eq i j || is_before line j i))
      (λ i. has R i && (nat_eq i j || is_before line j i))
      (λ i. part_of S R within i (nat_eq i j || is_before line j i)) line.times)

  -- a task that is chained in a part is chained in the whole
  pub chained_within : (kind : LineKind) (m : ℕ) → IsChained kind line c S m j → IsChained kind line c R m j
  unfolding IsChained
  chained_within Straight m h = (within j h.0, omega (arith, h.1, head_grows, tail_grows))
  chained_within U m h = h

-- the stations that the head and the tail of a task need
abbrev around : Line → ℕ → List Bool → ℕ → ℕ
around line c R j = head line c R j + tail line c R j - 1

-- a chained task is one of the set
pub chained_member : (kind : LineKind) (line : Line) (c : ℕ) (R : List Bool) (m j : ℕ) → IsChained kind line c R m j
    → In R j
unfolding IsChained
chained_member Straight line c R m j h = h.0
chained_member U line c R m j h = absurd h

module _ (line : Line) (c : ℕ) (R : List Bool) (tasks_of : IsTaskSet line R) (m : ℕ) where
  abbrev longest : List Bool → ℕ
  longest s = greatest_below (tasks line) (λ j. cond (has s j) (around line c R j) 0)

  at_most : (s : List Bool) (r : ℕ) → ((j : ℕ) → In s j → around line c R j ≤ r) → longest s ≤ r
  at_most s r h = greatest_le (tasks line) (λ j. cond (has s j) (around line c R j) 0) r
      (λ j. cond_le (has s j) (around line c R j) r (h j))

  at_least : (s : List Bool) (j : ℕ) → In s j → In R j → around line c R j ≤ longest s
  at_least s j member inside =
      let e : cond (has s j) (around line c R j) 0 ≡ around line c R j = ap (λ b. cond b (around line c R j) 0) member in
      omega (arith, e, below_at (tasks line) (λ i. cond (has s i) (around line c R i) 0) j (tasks_of.tasks j inside))

  -- where a part has all that are chained, going over it tells as much as going over the whole
  same_longest : (s : List Bool) → ((j : ℕ) → In R j → m < around line c R j → In s j)
      → max m (longest (meet R s)) ≡ max m (longest R)
  same_longest s all =
      let below : longest (meet R s) ≤ longest R = at_most (meet R s) (longest R)
      (λ j i. at_least R j (In-meet_parts R s j i).0 (In-meet_parts R s j i).0) in
      let above : longest R ≤ max m (longest (meet R s)) = at_most R (max m (longest (meet R s)))
      (λ j i. elim (cases_lt m (around line c R j)) [
        | inl l ↦ omega (arith, at_least (meet R s) j (In-meet R s j i (all j i l)) i)
        | inr g ↦ omega (arith, g)
      ]) in
      omega (arith, below, above)

  -- what a walk over the chained tasks starts with
  pub chained_start : (kind : LineKind) → kind ≡ Straight → (s : List Bool) (left : List ℕ)
      → ((j : ℕ) → IsChained kind line c R m j → In s j) → left ≡ members_of (meet R s)
      → max m (greatest_of (around line c R) left) ≡ max m (chained kind line c R)
  unfolding chained IsChained
  chained_start Straight straight s left all e =
      ap (λ l. max m (greatest_of (around line c R) l)) e
      ∙ ap (max m) (greatest_listed (tasks line) (around line c R) (meet R s)
      (λ i n. tasks_of.tasks i (In-meet_parts R s i n).0))
      ∙ same_longest s (λ j i l. all j (i, l))
  chained_start U straight s left all e = absurd (cc)

  -- where the chains are no longer, no task is chained
  pub none_chained : (kind : LineKind) → chained kind line c R ≤ m → (j : ℕ) → IsChained kind line c R m j → ⊥
  unfolding chained IsChained
  none_chained Straight few j h = omega (arith, few, h.1, at_least R j h.0 h.0)
  none_chained U few j h = h

  -- the chained tasks are tasks
  pub chained_set : (S : List Bool) → length S ≡ 1024 → ((j : ℕ) → In S j ↔ IsChained Straight line c R m j)
      → IsTaskSet line S
  unfolding IsChained
  chained_set S t h = record { truths = t; tasks = λ j n. tasks_of.tasks j ((h j).0 n).0 }

-- a task is listed
abbrev IsAmong : ℕ → List ℕ → Type 0
IsAmong j [] = ⊥
IsAmong j (i ∷ is) = (j ≡ i) ⊎ IsAmong j is

among_from : (k : ℕ) (s : List Bool) (i : ℕ) → In s i → IsAmong (k + i) (members_from k s)
unfolding members_from
among_from k [] i n = absurd (false≢true n)
among_from k (true ∷ bs) zero n = inl (omega arith)
among_from k (false ∷ bs) zero n = absurd (false≢true n)
among_from k (true ∷ bs) (suc i) n =
    let P : ℕ → Type 0 = λ x. IsAmong x (members_from (suc k) bs) in
    let e : suc k + i ≡ k + suc i = omega arith in inr (subst P e (among_from (suc k) bs i n))
among_from k (false ∷ bs) (suc i) n =
    let P : ℕ → Type 0 = λ x. IsAmong x (members_from (suc k) bs) in
    let e : suc k + i ≡ k + suc i = omega arith in subst P e (among_from (suc k) bs i n)

module _ (line : Line) (c : ℕ) (R : List Bool) (m : ℕ) where
  -- of the tasks that were gone over, S has the chained ones; the others are left
  pub record AreGathered (S : List Bool) (left : List ℕ) : Type 0 where
    pub truths : length S ≡ 1024
    pub only : (j : ℕ) → In S j → IsChained Straight line c R m j
    pub all : (j : ℕ) → IsChained Straight line c R m j → In S j ⊎ IsAmong j left

  pub gathered_start : (S : List Bool) (left : List ℕ) → length S ≡ 1024 → S ≡ replicate 1024 false
      → left ≡ members_of R → AreGathered S left
  unfolding IsChained
  gathered_start S left t none e = record {
    truths = t;
    only = λ j n. let P : List Bool → Type 0 = λ s. In s j in absurd (In-empty 1024 j (subst P none n));
    all = λ j h. let P : List ℕ → Type 0 = λ l. IsAmong j l in
        let Q : ℕ → Type 0 = λ x. IsAmong x (members_of R) in
        let z : 0 + j ≡ j = omega arith in inr (subst P (sym e) (subst Q z (among_from 0 R j h.0)));
  }

  -- the next task, whose head and tail need more stations, and one of which they don't
  pub gathered_more : (S N : List Bool) (left more : List ℕ) (i : ℕ) → left ≡ i ∷ more → In R i → i < 1024
      → m < around line c R i → N ≡ set S i true → length N ≡ 1024 → AreGathered S left → AreGathered N more
  unfolding IsChained
  gathered_more S N left more i e member small less put t g =
      let P : List Bool → Type 0 = λ s. AreGathered s more in
      subst P (sym put) (record {
        truths = sym (ap length put) ∙ t;
        only = λ j n. elim (In-set_cases S i j n) [
          | inl old ↦ g.only j old
          | inr same ↦ (let Q : ℕ → Type 0 = λ x. IsChained Straight line c R m x in
              subst Q (sym same) (member, less))
        ];
        all = λ j h. elim (g.all j h) [
          | inl old ↦ inl (In-set_kept S i j old)
          | inr listed ↦ (let L : List ℕ → Type 0 = λ l. IsAmong j l in
              elim (subst L e listed) [
                | inl same ↦ (let Q : ℕ → Type 0 = λ x. In (set S i true) x in
                    inl (subst Q (sym same) (In-set_same S i (omega (arith, g.truths, small)))))
                | inr later ↦ inr later
              ])
        ];
      })

  pub gathered_past : (S : List Bool) (left more : List ℕ) (i : ℕ) → left ≡ i ∷ more → around line c R i ≤ m
      → AreGathered S left → AreGathered S more
  unfolding IsChained
  gathered_past S left more i e less g = record {
    truths = g.truths;
    only = g.only;
    all = λ j h. elim (g.all j h) [
      | inl old ↦ inl old
      | inr listed ↦ (let L : List ℕ → Type 0 = λ l. IsAmong j l in
          elim (subst L e listed) [
            | inl same ↦ (let Q : ℕ → Type 0 = λ x. m < around line c R x in absurd (omega (arith, less, subst Q same h.1)))
            | inr later ↦ inr later
          ])
    ];
  }

  pub gathered_end : (S : List Bool) (left : List ℕ) → left ≡ [] → AreGathered S left → (j : ℕ)
      → In S j ↔ IsChained Straight line c R m j
  gathered_end S left e g = λ j. (
    g.only j,
    λ h. elim (g.all j h) [
      | inl found ↦ found
      | inr listed ↦ (let L : List ℕ → Type 0 = λ l. IsAmong j l in absurd (subst L e listed))
    ],
  )
