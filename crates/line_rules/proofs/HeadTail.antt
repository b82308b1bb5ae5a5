-- The head and the tail of a task part the other tasks of its set.
use Rattle.std.proofs.Common.{◌≡◌, ◌≢◌, ℕ, ◌+◌, ◌-◌, ◌*◌, ◌/◌, ◌<◌, ◌≤◌, ◌↔◌, max, Bool, true, false, cond, ◌&&◌, ◌||◌}
use Rattle.std.proofs.Common.{not, nat_eq, List, length, get_or, set, refl, sym, ap, ◌∙◌, subst, inl, inr, arith}
use Rattle.std.proofs.lemmas.Bool.{false≢true, cases_lt, and_parts, and_from, or_cases, or_left, or_right, cond-true}
use Rattle.std.proofs.lemmas.Bool.{eqb-true, eq-eqb, false_from_ne_true}
use Rattle.std.proofs.Math.Nat.{mul-le-mul_right, div-le_self}
use Rattle.std.specs.Int.{div_ceil}
use Rattle.line_instance.specs.Truths.{In, meet, minus, members_of}
use Rattle.line_instance.proofs.Members.{In-meet, In-meet_parts, In-minus, In-minus_parts, In-clear, In-clear_kept}
use Rattle.line_instance.proofs.Members.{In-clear_gone, keep, In-keep, In-keep_parts}
use Rattle.line_instance.specs.Line.{Line, IsLine, IsTaskSet, Before, has, is_before, tasks, time}
use Rattle.line_instance.specs.Sums.{sum_where}
use Rattle.line_instance.proofs.Sums.{weigh-split, weigh-more, weigh-same, weigh-one, same_truth}
use Rattle.line_rules.specs.Bounds.{up, head, tail, chained}
use Rattle.line_rules.specs.declared.types.LineKind.{LineKind}
use Rattle.line_rules.specs.declared.types.LineKind.TheVariants.{Straight, U}
use Rattle.line_rules.specs.Times.{time_elsewhere}
use Rattle.line_rules.proofs.SumsOverMembers.{greatest_of, greatest_listed}
use Rattle.line_rules.proofs.BoundIsTrue.{cond_le, greatest_le}

-- two numbers need at most r + 1 stations where they sum to at most r cycles and 1
pub up_pair : (c x y r : ℕ) → 1 ≤ c → x + y ≤ r * c + 1 → up x c + up y c - 1 ≤ r
up_pair c x y r o l = elim (cases_lt (up x c + up y c) (r + 2)) [
  | inl less ↦ omega arith
  | inr more ↦ (let m : (r + 2) * c ≤ (up x c + up y c) * c = mul-le-mul_right c more in
      let a : c * ((x + (c - 1)) / c) ≤ x + (c - 1) = omega arith in
      let b : c * ((y + (c - 1)) / c) ≤ y + (c - 1) = omega arith in
      absurd (grind (arith, m, a, b, o, l)))
]

-- a number of cycles is at most one more than the number of time units
pub ceil_le : (a b : ℕ) → div_ceil a b ≤ a + 1
ceil_le a b = omega (arith, div-le_self a b)

-- rounding up in code
pub up_ceil : (a b : ℕ) → 1 ≤ b → div_ceil a b ≡ up a b
up_ceil a b o = grind arith

nots : (e b a : Bool) → e ≡ false → b ≡ false → a ≡ false → not (e || (b || a)) ≡ true
nots e b a p q r = ap (λ x. not (x || (b || a))) p ∙ ap (λ x. not (x || a)) q ∙ ap not r

nots_parts : (e b a : Bool) → not (e || (b || a)) ≡ true → (e ≡ false) × (b ≡ false) × (a ≡ false)
nots_parts true b a h = absurd (false≢true h)
nots_parts false true a h = absurd (false≢true h)
nots_parts false false true h = absurd (false≢true h)
nots_parts false false false h = (refl, refl, refl)

-- one test that leaves out e, b and a, and one that leaves out b and a, where e is not so
others : (r b a e : Bool) → e ≡ false → ((r && not b) && not a) ≡ (r && not (e || (b || a)))
others true true a e p = ap (λ x. not (x || (true || a))) (sym p)
others true false a e p = ap (λ x. not (x || (false || a))) (sym p)
others false b a e p = refl

itself : (r e x : Bool) → e ≡ true → (r && not (e || x)) ≡ false
itself true e x p = ap (λ y. not (y || x)) p
itself false e x p = refl

module _ (line : Line) (ok : IsLine line) (R : List Bool) (tasks_of : IsTaskSet line R) (j : ℕ) (member : In R j)
    (before after : List Bool)
    (before_is : (i : ℕ) → In R i → In before i ↔ Before line i j)
    (after_is : (i : ℕ) → In R i → In after i ↔ Before line j i) where
  not_before : (i : ℕ) → Before line i i → ⊥
  not_before i = ok.not_itself i

  -- the tasks of a side of j, and j itself
  side : (beside : ℕ → Bool) (s : List Bool) → ((i : ℕ) → In R i → In s i ↔ (beside i ≡ true)) → (beside j ≡ true → ⊥)
      → sum_where (λ i. has R i && (nat_eq i j || beside i)) line.times
      ≡ sum_where (has (meet R s)) line.times + time line j
  side beside s is none =
      let gone : has (meet R s) j ≡ false = false_from_ne_true (has (meet R s) j)
      (λ m. none ((is j member).0 (In-meet_parts R s j m).1)) in
      let here : (has R j && (nat_eq j j || beside j)) ≡ true =
      and_from (has R j) (nat_eq j j || beside j) member (or_left (nat_eq j j) (beside j) (eq-eqb j j refl)) in
      let same : (i : ℕ) → (i ≡ j → ⊥) → (has R i && (nat_eq i j || beside i)) ≡ has (meet R s) i =
      λ i n. same_truth (has R i && (nat_eq i j || beside i)) (has (meet R s) i)
      (λ e. let q : (has R i ≡ true) × ((nat_eq i j || beside i) ≡ true) =
      and_parts (has R i) (nat_eq i j || beside i) e in
      elim (or_cases (nat_eq i j) (beside i) q.1) [
        | inl w ↦ absurd (n (eqb-true i j w))
        | inr b ↦
            In-meet R s i q.0 ((is i q.0).1 b)
      ])
      (λ m. let q : In R i × In s i = In-meet_parts R s i m in
      and_from (has R i) (nat_eq i j || beside i) q.0 (or_right (nat_eq i j) (beside i) ((is i q.0).0 q.1))) in
      omega (
        arith,
        cond-true (has R j && (nat_eq j j || beside j)) (time line j) 0 here,
        weigh-more (λ t. t) (λ i. has R i && (nat_eq i j || beside i)) (has (meet R s)) j gone same line.times
            (tasks_of.tasks j member),
      )

  pub head_sum : sum_where (λ i. has R i && (nat_eq i j || is_before line i j)) line.times
      ≡ sum_where (has (meet R before)) line.times + time line j
  head_sum = side (λ i. is_before line i j) before before_is (not_before j)

  pub tail_sum : sum_where (λ i. has R i && (nat_eq i j || is_before line j i)) line.times
      ≡ sum_where (has (meet R after)) line.times + time line j
  tail_sum = side (λ i. is_before line j i) after after_is (not_before j)

  before_met : sum_where (λ i. has R i && is_before line i j) line.times ≡ sum_where (has (meet R before)) line.times
  before_met = weigh-same (λ t. t) (λ i. has R i && is_before line i j) (has (meet R before))
      (λ i. same_truth (has R i && is_before line i j) (has (meet R before) i)
      (λ e. let q : In R i × Before line i j = and_parts (has R i) (is_before line i j) e in
      In-meet R before i q.0 ((before_is i q.0).1 q.1))
      (λ m. let q : In R i × In before i = In-meet_parts R before i m in
      and_from (has R i) (is_before line i j) q.0 ((before_is i q.0).0 q.1))) line.times

  after_met : sum_where (λ i. (has R i && not (is_before line i j)) && is_before line j i) line.times
      ≡ sum_where (has (meet R after)) line.times
  after_met = weigh-same (λ t. t) (λ i. (has R i && not (is_before line i j)) && is_before line j i)
      (has (meet R after))
      (λ i. same_truth ((has R i && not (is_before line i j)) && is_before line j i) (has (meet R after) i)
      (λ e. let q : ((has R i && not (is_before line i j)) ≡ true) × Before line j i =
      and_parts (has R i && not (is_before line i j)) (is_before line j i) e in
      In-meet R after i (and_parts (has R i) (not (is_before line i j)) q.0).0
      ((after_is i (and_parts (has R i) (not (is_before line i j)) q.0).0).1 q.1))
      (λ m. let q : In R i × In after i = In-meet_parts R after i m in
      let behind : Before line j i = (after_is i q.0).0 q.1 in
      let n : is_before line i j ≡ false = false_from_ne_true (is_before line i j)
      (λ b. not_before i (ok.leads_on i j i b behind)) in
      and_from (has R i && not (is_before line i j)) (is_before line j i)
      (and_from (has R i) (not (is_before line i j)) q.0 (ap not n)) behind)) line.times

  -- what is left of R, with j
  left_met : sum_where (λ i. (has R i && not (is_before line i j)) && not (is_before line j i)) line.times
      ≡ time_elsewhere line R j + time line j
  unfolding time_elsewhere
  left_met =
      let picks : ℕ → Bool = λ i. has R i && not (nat_eq i j || (is_before line i j || is_before line j i)) in
      let here : ((has R j && not (is_before line j j)) && not (is_before line j j)) ≡ true =
      and_from (has R j && not (is_before line j j)) (not (is_before line j j))
      (and_from (has R j) (not (is_before line j j)) member
      (ap not (false_from_ne_true (is_before line j j) (not_before j))))
      (ap not (false_from_ne_true (is_before line j j) (not_before j))) in
      omega (
        arith,
        cond-true ((has R j && not (is_before line j j)) && not (is_before line j j)) (time line j) 0 here,
        weigh-more (λ t. t) (λ i. (has R i && not (is_before line i j)) && not (is_before line j i)) picks j
            (itself (has R j) (nat_eq j j) (is_before line j j || is_before line j j) (eq-eqb j j refl))
            (λ i n. others (has R i) (is_before line i j) (is_before line j i) (nat_eq i j)
            (false_from_ne_true (nat_eq i j) (λ e. n (eqb-true i j e)))) line.times (tasks_of.tasks j member),
      )

  -- the tasks of R are those before j, those after j, j, and those elsewhere
  parts : sum_where (has R) line.times + time line j
      ≡ sum_where (λ i. has R i && (nat_eq i j || is_before line i j)) line.times + sum_where
      (λ i. has R i && (nat_eq i j || is_before line j i)) line.times + time_elsewhere line R j
  parts = omega (
    arith,
    head_sum,
    tail_sum,
    before_met,
    after_met,
    left_met,
    weigh-split (λ t. t) (has R) (λ i. is_before line i j) line.times,
    weigh-split (λ t. t) (λ i. has R i && not (is_before line i j)) (λ i. is_before line j i) line.times,
  )

  -- where the tasks elsewhere take the time that would make the difference, the head and the tail need at most r
  -- stations
  pub few_around : (c r : ℕ) → 1 ≤ c → sum_where (has R) line.times + time line j < r * c + 2 + time_elsewhere line R j
      → head line c R j + tail line c R j - 1 ≤ r
  unfolding head tail
  few_around c r o l =
      up_pair c (sum_where (λ i. has R i && (nat_eq i j || is_before line i j)) line.times)
      (sum_where (λ i. has R i && (nat_eq i j || is_before line j i)) line.times) r o (omega (arith, parts, l))

  -- those elsewhere, as a set
  module _ (s : List Bool) (is : s ≡ set (minus (minus R before) after) j false) where
    -- what is in it
    pub elsewhere_parts : (i : ℕ) → In s i → In R i × (i ≢ j) × (is_before line i j ≡ false)
        × (is_before line j i ≡ false)
    elsewhere_parts i m =
        let P : List Bool → Type 0 = λ q. In q i in
        let k : In (set (minus (minus R before) after) j false) i = subst P is m in
        let q : In (minus R before) i × (get_or after i false ≡ false) =
        In-minus_parts (minus R before) after i (In-clear_kept (minus (minus R before) after) j i k) in
        let p : In R i × (get_or before i false ≡ false) = In-minus_parts R before i q.0 in (
          p.0,
          λ e. let Q : ℕ → Type 0 = λ n. In (set (minus (minus R before) after) j false) n in
              In-clear_gone (minus (minus R before) after) j (subst Q e k),
          false_from_ne_true (is_before line i j) (λ b. false≢true (sym p.1 ∙ (before_is i p.0).1 b)),
          false_from_ne_true (is_before line j i) (λ a. false≢true (sym q.1 ∙ (after_is i p.0).1 a)),
        )

    pub elsewhere_set : length s ≡ 1024 → IsTaskSet line s
    elsewhere_set l = record { truths = l; tasks = λ i m. tasks_of.tasks i (elsewhere_parts i m).0 }

    pub elsewhere_sum : sum_where (has s) line.times ≡ time_elsewhere line R j
    unfolding time_elsewhere
    elsewhere_sum = weigh-same (λ t. t) (has s) (λ i. has R i
        && not (nat_eq i j || (is_before line i j || is_before line j i)))
        (λ i. same_truth (has s i) (has R i && not (nat_eq i j || (is_before line i j || is_before line j i)))
        (λ m. let p : In R i × (i ≢ j) × (is_before line i j ≡ false) × (is_before line j i ≡ false) =
        elsewhere_parts i m in
        and_from (has R i) (not (nat_eq i j || (is_before line i j || is_before line j i))) p.0
        (nots (nat_eq i j) (is_before line i j) (is_before line j i)
        (false_from_ne_true (nat_eq i j) (λ e. p.1 (eqb-true i j e))) p.2 p.3))
        (λ e. let q : (has R i ≡ true) × (not (nat_eq i j || (is_before line i j || is_before line j i)) ≡ true) =
        and_parts (has R i) (not (nat_eq i j || (is_before line i j || is_before line j i))) e in
        let n : (nat_eq i j ≡ false) × (is_before line i j ≡ false) × (is_before line j i ≡ false) =
        nots_parts (nat_eq i j) (is_before line i j) (is_before line j i) q.1 in
        let P : List Bool → Type 0 = λ q. In q i in
        subst P (sym is) (In-clear (minus (minus R before) after) j i
        (In-minus (minus R before) after i (In-minus R before i q.0
        (false_from_ne_true (get_or before i false) (λ m. false≢true (sym n.1 ∙ (before_is i q.0).0 m))))
        (false_from_ne_true (get_or after i false) (λ m. false≢true (sym n.2 ∙ (after_is i q.0).0 m))))
        (λ d. false≢true (sym n.0 ∙ eq-eqb i j d)))))
        line.times

  -- one of those elsewhere takes no more time than all of them
  pub one_elsewhere : (i : ℕ) → In R i → i ≢ j → get_or before i false ≡ false → get_or after i false ≡ false
      → time line i ≤ time_elsewhere line R j
  unfolding time_elsewhere
  one_elsewhere i m d b a = weigh-one (λ t. t) (λ k. has R k
      && not (nat_eq k j || (is_before line k j || is_before line j k))) i line.times (tasks_of.tasks i m)
      (and_from (has R i) (not (nat_eq i j || (is_before line i j || is_before line j i))) m
      (nots (nat_eq i j) (is_before line i j) (is_before line j i)
      (false_from_ne_true (nat_eq i j) (λ e. d (eqb-true i j e)))
      (false_from_ne_true (is_before line i j) (λ w. false≢true (sym b ∙ (before_is i m).1 w)))
      (false_from_ne_true (is_before line j i) (λ w. false≢true (sym a ∙ (after_is i m).1 w)))))

  -- the times before j and elsewhere leave that of j and what is after it
  module _ (met : List Bool) (met_is : met ≡ meet R before) (h : ℕ)
      (h_is : h ≡ sum_where (has met) line.times + time line j) where
    before_time : h ≡ sum_where (has (meet R before)) line.times + time line j
    before_time = h_is ∙ ap (λ q. sum_where (has q) line.times + time line j) met_is

    pub room_left : h ≤ sum_where (has R) line.times + time line j - time_elsewhere line R j
    room_left = omega (arith, before_time, head_sum, parts)

    -- the head and the tail
    pub around_is : (c t : ℕ) → 1 ≤ c → t ≡ sum_where (has R) line.times + time line j - time_elsewhere line R j - h
        → div_ceil h c + div_ceil t c - 1 ≡ head line c R j + tail line c R j - 1
    unfolding head tail
    around_is c t o g =
        let x : div_ceil h c ≡ up (sum_where (λ i. has R i && (nat_eq i j || is_before line i j)) line.times) c =
        up_ceil h c o ∙ ap (λ x. up x c) (omega (arith, before_time, head_sum)) in
        let y : div_ceil t c ≡ up (sum_where (λ i. has R i && (nat_eq i j || is_before line j i)) line.times) c =
        up_ceil t c o ∙ ap (λ x. up x c) (omega (arith, before_time, g, head_sum, parts)) in
        ap (λ n. n + div_ceil t c - 1) x ∙ ap (λ n. up (sum_where (λ i. has R i && (nat_eq i j || is_before line i j))
        line.times) c + n - 1) y

-- what a walk over the members starts with
pub chain_start : (kind : LineKind) → kind ≡ Straight → (line : Line) (c : ℕ) (R : List Bool) (least : ℕ)
    (left : List ℕ) → IsTaskSet line R → left ≡ members_of R
    → max least (greatest_of (λ j. head line c R j + tail line c R j - 1) left) ≡ max least (chained kind line c R)
unfolding chained
chain_start kind straight line c R least left set e =
    let f : greatest_of (λ j. head line c R j + tail line c R j - 1) left
    ≡ greatest_of (λ j. head line c R j + tail line c R j - 1) (members_of R) =
    ap (greatest_of (λ j. head line c R j + tail line c R j - 1)) e in
    ap (max least) (f ∙ greatest_listed (tasks line) (λ j. head line c R j + tail line c R j - 1) R set.tasks
    ∙ sym (ap (λ k. chained k line c R) straight))

-- a U-line asks nothing of what is before and after a task
pub no_chain : (kind : LineKind) → kind ≡ U → (line : Line) (c : ℕ) (R : List Bool) → chained kind line c R ≡ 0
unfolding chained
no_chain kind u line c R = ap (λ k. chained k line c R) u

-- the same, where what is after j is not at hand as a set
module _ (line : Line) (ok : IsLine line) (R : List Bool) (tasks_of : IsTaskSet line R) (j : ℕ) (member : In R j) where
  picked_out : (p : ℕ → Bool) (i : ℕ) → In R i → In (keep p R) i ↔ (p i ≡ true)
  picked_out p i m = (λ k. (In-keep_parts p R i k).1, λ e. In-keep p R i m e)

  pub few_beside : (c r : ℕ) → 1 ≤ c → sum_where (has R) line.times + time line j < r * c + 2 + time_elsewhere line R j
      → head line c R j + tail line c R j - 1 ≤ r
  few_beside = few_around line ok R tasks_of j member (keep (λ i. is_before line i j) R)
      (keep (λ i. is_before line j i) R) (picked_out (λ i. is_before line i j)) (picked_out (λ i. is_before line j i))

  -- the part of R that stands in a set
  pub met_set : (beside s : List Bool) → s ≡ meet R beside → length s ≡ 1024 → IsTaskSet line s
  met_set beside s e l = record {
    truths = l;
    tasks = λ i m. let P : List Bool → Type 0 = λ q. In q i in
        tasks_of.tasks i (In-meet_parts R beside i (subst P e m)).0;
  }

  module _ (before : List Bool) (before_is : (i : ℕ) → In before i ↔ Before line i j) (met : List Bool)
      (met_is : met ≡ meet R before) (h : ℕ) (h_is : h ≡ sum_where (has met) line.times + time line j) where
    pub room_beside : h ≤ sum_where (has R) line.times + time line j - time_elsewhere line R j
    room_beside = room_left line ok R tasks_of j member before (keep (λ i. is_before line j i) R) (λ i _. before_is i)
        (picked_out (λ i. is_before line j i)) met met_is h h_is

    pub beside_is : (c t : ℕ) → 1 ≤ c → t ≡ sum_where (has R) line.times + time line j - time_elsewhere line R j - h
        → div_ceil h c + div_ceil t c - 1 ≡ head line c R j + tail line c R j - 1
    beside_is = around_is line ok R tasks_of j member before (keep (λ i. is_before line j i) R) (λ i _. before_is i)
        (picked_out (λ i. is_before line j i)) met met_is h h_is

  module _ (before after first last : List Bool) (before_is : (i : ℕ) → In before i ↔ Before line i j)
      (after_is : (i : ℕ) → In after i ↔ Before line j i)
      (first_is : first ≡ meet R before) (last_is : last ≡ meet R after) where
    first_sum : sum_where (λ i. has R i && (nat_eq i j || is_before line i j)) line.times
        ≡ sum_where (has first) line.times + time line j
    first_sum = head_sum line ok R tasks_of j member before after (λ i _. before_is i) (λ i _. after_is i)
        ∙ ap (λ q. sum_where (has q) line.times + time line j) (sym first_is)

    last_sum : sum_where (λ i. has R i && (nat_eq i j || is_before line j i)) line.times
        ≡ sum_where (has last) line.times + time line j
    last_sum = tail_sum line ok R tasks_of j member before after (λ i _. before_is i) (λ i _. after_is i)
        ∙ ap (λ q. sum_where (has q) line.times + time line j) (sym last_is)

    -- the head and the tail by the times before and after j
    pub chain_is : (c h t : ℕ) → 1 ≤ c → h ≡ sum_where (has first) line.times + time line j
        → t ≡ sum_where (has last) line.times + time line j
        → div_ceil h c + div_ceil t c - 1 ≡ head line c R j + tail line c R j - 1
    unfolding head tail
    chain_is c h t o e f =
        let x : div_ceil h c ≡ up (sum_where (λ i. has R i && (nat_eq i j || is_before line i j)) line.times) c =
        up_ceil h c o ∙ ap (λ x. up x c) (e ∙ sym first_sum) in
        let y : div_ceil t c ≡ up (sum_where (λ i. has R i && (nat_eq i j || is_before line j i)) line.times) c =
        up_ceil t c o ∙ ap (λ x. up x c) (f ∙ sym last_sum) in
        ap (λ n. n + div_ceil t c - 1) x ∙ ap (λ n. up (sum_where (λ i. has R i && (nat_eq i j || is_before line i j))
        line.times) c + n - 1) y

-- where even the longest task can't make the difference, no head and tail need more than r stations
pub few_chained : (kind : LineKind) (line : Line) → IsLine line → (c : ℕ) → 1 ≤ c → (R : List Bool) → IsTaskSet line R
    → (r total longest : ℕ) → total ≡ sum_where (has R) line.times
    → ((i : ℕ) → In R i → time line i ≤ longest) → total + longest < r * c + 2 → chained kind line c R ≤ r
unfolding chained
few_chained U line ok c o R set r total longest e f l = omega arith
few_chained Straight line ok c o R set r total longest e f l =
    greatest_le (tasks line) (λ j. cond (has R j) (head line c R j + tail line c R j - 1) 0) r
    (λ j. cond_le (has R j) (head line c R j + tail line c R j - 1) r
    (λ m. few_beside line ok R set j m c r o (omega (arith, e, l, f j m))))
