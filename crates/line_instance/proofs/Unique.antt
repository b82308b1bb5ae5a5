-- An instance, an answer and a list of kept partners are determined by what is said of them.
use Rattle.std.proofs.Common.{◌≡◌, ℕ, zero, suc, ◌+◌, ◌-◌, ◌<◌, ◌≤◌, Bool, true, false, List, [], length, get_or, set}
use Rattle.std.proofs.Common.{replicate, refl, sym, ap, ◌∙◌, subst, ◌⊎◌, inl, inr, arith}
use Rattle.std.proofs.Math.ListN.{length-set}
use Rattle.std.proofs.lemmas.List.{ext_get_or, get_or_read, length-replicate}
use Rattle.std.proofs.lemmas.Bool.{cases_eq, cases_lt, cases_Bool}
use Rattle.line_instance.specs.Truths.{In}
use Rattle.line_instance.proofs.Counts.{same_members}
use Rattle.line_instance.proofs.Members.{In-set_cases, In-empty}
use Rattle.line_instance.specs.Line.{Line, IsLine, IsRanked, tasks, at_rank, Before}
use Rattle.line_instance.specs.Walks.{Leads, Walk, arc, on, IsRing, at, arc_at, AreArcs}
use Rattle.line_instance.specs.Ranks.{AreRanks, IsFree, IsPlaced}
use Rattle.line_instance.specs.Partners.{AreKept}
use Rattle.line_instance.specs.Made.{IsInstanceOf, AreTimes, IsFirstLong, IsFirstBad}
use Rattle.line_instance.specs.Laws.{AfterIsTheConverse, IsRankOf, RanksAreInverse, RanksArePermutation, InstanceIsOne}
use Rattle.line_instance.specs.Laws.{NoRing, AnswerIsOne, KeptIsOne}
use Rattle.line_instance.specs.declared.arcs.Prec.{Prec}
use Rattle.line_instance.specs.declared.making.Made.TheVariants.{Good, NoTasks, TooManyTasks, BadTime, BadArc, Cycle}
use Rattle.line_instance.specs.declared.making.Made.TheVariants.{NoMemory}
use Rattle.line_instance.proofs.Sums.{same_truth}
use Rattle.line_instance.proofs.Orders.{size, size-set, size-below, size-none, find_left}

pub not_in : (s : List Bool) (i : ℕ) → (In s i → ⊥) → get_or s i false ≡ false
not_in s i n = elim (cases_Bool (get_or s i false)) [ inl y ↦ absurd (n y) | inr x ↦ x ]

module _ (line : Line) (shape : IsLine line) (r : AreRanks line) where
  -- no rank has the task of a lower one
  apart_ranks : (k m : ℕ) → k < m → m < tasks line → at_rank line k ≡ at_rank line m → ⊥
  apart_ranks k m l h e = (r.free m h).new (k, l, e)

  once : (k m : ℕ) → k < tasks line → m < tasks line → at_rank line k ≡ at_rank line m → k ≡ m
  once k m l h e = elim (cases_lt k m) [
    | inl b ↦ absurd (apart_ranks k m b h e)
    | inr b ↦ elim (cases_eq k m) [
      | inl s ↦ s
      | inr n ↦ absurd (apart_ranks m k (omega arith) l (sym e))
    ]
  ]

  -- the tasks of the ranks below k
  record IsHeld (k : ℕ) (s : List Bool) : Type 0 where
    pub truths : length s ≡ 1024
    pub many : size s ≡ k
    pub held : (t : ℕ) → In s t → IsPlaced line k t

  holds : (k : ℕ) → k ≤ tasks line → (s : List Bool) × IsHeld k s
  holds zero l = (
    replicate 1024 false,
    record { truths = length-replicate 1024 false; many = size-none 1024; held = λ t m. absurd (In-empty 1024 t m) },
  )
  holds (suc k) l =
      let old : (s : List Bool) × IsHeld k s = holds k (omega arith) in
      let task : at_rank line k < tasks line = (r.free k (omega arith)).task in
      let new : get_or old.0 (at_rank line k) false ≡ false =
      not_in old.0 (at_rank line k) (λ m. (r.free k (omega arith)).new (old.1.held (at_rank line k) m)) in (
        set old.0 (at_rank line k) true,
        record {
          truths = length-set old.0 (at_rank line k) true ∙ old.1.truths;
          many = omega (
            arith,
            old.1.many,
            size-set old.0 (at_rank line k)
                (omega (arith, task, old.1.truths, shape.small)) new,
          );
          held = λ t m. elim (In-set_cases old.0 (at_rank line k) t m) [
            | inl p ↦ (let q : IsPlaced line k t = old.1.held t p in (q.0, omega (arith, q.1), q.2))
            | inr e ↦ (k, omega arith, sym e)
          ];
        },
      )

  rank : (i : ℕ) → i < tasks line → IsPlaced line (tasks line) i
  rank i l =
      let all : (s : List Bool) × IsHeld (tasks line) s = holds (tasks line) (omega arith) in
      let small : (t : ℕ) → In all.0 t → t < tasks line = λ t m.
      (let q : IsPlaced line (tasks line) t = all.1.held t m in omega (arith, q.2, (r.free q.0 q.1).task)) in
      elim (find_left all.0 (tasks line)) [
        | inl f ↦ absurd (omega (
          arith,
          all.1.many,
          size-set all.0 f.0 (omega (arith, f.1, all.1.truths, shape.small)) f.2,
          size-below (set all.0 f.0 true) (tasks line) (λ t m. elim (In-set_cases all.0 f.0 t m) [
            | inl p ↦ small t p
            | inr e ↦ omega (arith, e, f.1)
          ]),
        ))
        | inr a ↦ all.1.held i (a i l)
      ]

  permutation : IsRanked line
  permutation = record {
    many = r.many;
    task = λ k l. (r.free k l).task;
    rank = λ i l. rank i l;
    once = once;
    rises = λ k m l h b. let p : IsPlaced line m (at_rank line k) = (r.free m h).ready (at_rank line k) b in
        omega (arith, p.1, once p.0 k (omega (arith, p.1)) l p.2);
  }

pub ranks_are_permutation : RanksArePermutation
ranks_are_permutation = permutation

-- sets of tasks with the same members, and rows of such sets
pub same_set : (a b : List Bool) → length a ≡ 1024 → length b ≡ 1024 → ((i : ℕ) → In a i → In b i)
    → ((i : ℕ) → In b i → In a i) → a ≡ b
same_set a b l m h k = ext_get_or false a b (l ∙ sym m) (λ i w.
    same_truth (get_or a i false) (get_or b i false) (h i) (k i))

same_rows : (n : ℕ) (a b : List (List Bool)) → length a ≡ n → length b ≡ n
    → ((t : ℕ) → t < n → length (get_or a t []) ≡ 1024) → ((t : ℕ) → t < n → length (get_or b t []) ≡ 1024)
    → ((t : ℕ) → t < n → (i : ℕ) → In (get_or a t []) i → In (get_or b t []) i)
    → ((t : ℕ) → t < n → (i : ℕ) → In (get_or b t []) i → In (get_or a t []) i) → a ≡ b
same_rows n a b l m v w h k = ext_get_or [] a b (l ∙ sym m)
    (λ t s. let small : t < n = omega arith in same_set (get_or a t []) (get_or b t []) (v t small) (w t small)
    (h t small) (k t small))

same_line : (a b : Line) → a.times ≡ b.times → a.before ≡ b.before → a.apart ≡ b.apart → a.order ≡ b.order → a ≡ b
same_line a b e f g h =
    let T : List ℕ → Line = λ t. record { times = t; before = a.before; apart = a.apart; order = a.order } in
    let B : List (List Bool) → Line = λ r. record { times = b.times; before = r; apart = a.apart; order = a.order } in
    let A : List (List Bool) → Line = λ r. record { times = b.times; before = b.before; apart = r; order = a.order } in
    let O : List ℕ → Line = λ o. record { times = b.times; before = b.before; apart = b.apart; order = o } in
    ap T e ∙ ap B f ∙ ap A g ∙ ap O h

-- what is free in the one order is free in the other, where they agree below
free_along : (a b : Line) (k t : ℕ) → tasks a ≡ tasks b → ((i : ℕ) → Before b i t → Before a i t)
    → ((m : ℕ) → m < k → at_rank a m ≡ at_rank b m) → IsFree a k t → IsFree b k t
free_along a b k t n back agree f = record {
  task = omega (arith, f.task);
  new = λ p. f.new (p.0, p.1, agree p.0 p.1 ∙ p.2);
  ready = λ i m. let q : IsPlaced a k i = f.ready i (back i m) in (q.0, q.1, sym (agree q.0 q.1) ∙ q.2);
}

module _ (given : List ℕ) (arcs : List Prec) (a b : Line) (x : IsInstanceOf given arcs a)
    (y : IsInstanceOf given arcs b) where
  many : tasks a ≡ tasks b
  many = ap length (x.times ∙ sym y.times)

  befores : a.before ≡ b.before
  befores = same_rows (tasks a) a.before b.before x.line_is.before_rows (y.line_is.before_rows ∙ sym many)
      (λ t l. (x.line_is.before t l).truths) (λ t l. (y.line_is.before t (omega (arith, many))).truths)
      (λ t l i m. (y.before t (omega (arith, many))).all i ((x.before t l).walks i m))
      (λ t l i m. (x.before t l).all i ((y.before t (omega (arith, many))).walks i m))

  aparts : a.apart ≡ b.apart
  aparts = same_rows (tasks a) a.apart b.apart x.line_is.apart_rows (y.line_is.apart_rows ∙ sym many)
      (λ t l. (x.line_is.apart t l).truths) (λ t l. (y.line_is.apart t (omega (arith, many))).truths)
      (λ t l i m. absurd (x.apart i t m)) (λ t l i m. absurd (y.apart i t m))

  there : (i t : ℕ) → Before a i t → Before b i t
  there i t m = let P : List (List Bool) → Type 0 = λ rows. In (get_or rows t []) i in subst P befores m

  back : (i t : ℕ) → Before b i t → Before a i t
  back i t m = let P : List (List Bool) → Type 0 = λ rows. In (get_or rows t []) i in subst P (sym befores) m

  same_below : (k : ℕ) → k ≤ tasks a → (m : ℕ) → m < k → at_rank a m ≡ at_rank b m
  same_below zero l m h = absurd (omega arith)
  same_below (suc k) l m h =
      let old : (j : ℕ) → j < k → at_rank a j ≡ at_rank b j = same_below k (omega arith) in
      elim (cases_lt m k) [
        | inl s ↦ old m s
        | inr s ↦ (let low : at_rank a k ≤ at_rank b k = x.ranks.least k (at_rank b k) (omega arith)
            (free_along b a k (at_rank b k) (sym many) (λ i w. there i (at_rank b k) w) (λ j w. sym (old j w))
            (y.ranks.free k (omega (arith, many)))) in
            let high : at_rank b k ≤ at_rank a k = y.ranks.least k (at_rank a k) (omega (arith, many))
            (free_along a b k (at_rank a k) many (λ i w. back i (at_rank a k) w) old (x.ranks.free k (omega arith))) in
            let e : m ≡ k = omega arith in
            let P : ℕ → Type 0 = λ z. at_rank a z ≡ at_rank b z in
            subst P (sym e) (omega (arith, low, high)))
      ]

  orders : a.order ≡ b.order
  orders = ext_get_or 0 a.order b.order (x.ranks.many ∙ many ∙ sym y.ranks.many)
      (λ m l. same_below (tasks a) (omega arith) m (omega (arith, x.ranks.many)))

  pub one_instance : a ≡ b
  one_instance = same_line a b (x.times ∙ sym y.times) befores aparts orders

-- an arc is of tasks
arc_of_tasks : (n : ℕ) (arcs : List Prec) (i j : ℕ) → AreArcs n arcs → Leads arcs i j → j < n
arc_of_tasks n arcs i j h l =
    let is : record { first = i; «then» = j } ≡ arc_at arcs l.0 =
    get_or_read arcs l.0 (record { first = i; «then» = j }) l.1 (sym l.2) (record { first = 0; «then» = 0 }) in
    let e : j ≡ (arc_at arcs l.0).«then» = ap (λ p. p.«then») is in
    omega (arith, e, (h l.0 l.1).1)

-- a ring leads from its first task to each other one
around : (arcs : List Prec) (ring : List ℕ) → IsRing arcs ring → (k : ℕ) → k < length ring
    → (k ≡ 0) ⊎ Walk arcs (at ring 0) (at ring k)
around arcs ring r zero l = inl refl
around arcs ring r (suc k) l =
    let P : ℕ → Type 0 = λ z. Walk arcs (at ring 0) (at ring z) in
    let next : k + 1 ≡ suc k = omega arith in
    inr (elim (around arcs ring r k (omega arith)) [
      | inl e ↦ (let Q : ℕ → Type 0 = λ z. Leads arcs (at ring z) (at ring (k + 1)) in
          subst P next (arc (subst Q e (r.leads k (omega arith)))))
      | inr w ↦ subst P next (on w (r.leads k (omega arith)))
    ])

pub no_ring : NoRing
no_ring times arcs line ring x r =
    let k : (k : ℕ) × (k + 1 ≡ length ring) = (length ring - 1, omega (arith, r.some)) in
    let closing : Leads arcs (at ring k.0) (at ring 0) = r.closes k.0 k.1 in
    let task : at ring 0 < tasks line = omega (
      arith,
      ap length x.times,
      arc_of_tasks (length times) arcs (at ring k.0) (at ring 0) x.named closing,
    ) in
    let walk : Walk arcs (at ring 0) (at ring 0) = elim (around arcs ring r k.0 (omega (arith, k.1))) [
      | inl e ↦ (let Q : ℕ → Type 0 = λ z. Leads arcs (at ring z) (at ring 0) in arc (subst Q e closing))
      | inr w ↦ on w closing
    ] in
    x.line_is.not_itself (at ring 0) ((x.before (at ring 0) task).all (at ring 0) walk)

long_limit : (times : List ℕ) (i : ℕ) → IsFirstLong times i → AreTimes times → ⊥
long_limit times i f t = omega (arith, f.above, t.limit i)

bad_named : (n : ℕ) (arcs : List Prec) (k : ℕ) → IsFirstBad n arcs k → AreArcs n arcs → ⊥
bad_named n arcs k f h = f.bad (h k f.place)

none_some : (times : List ℕ) → times ≡ [] → 0 < length times → ⊥
none_some times e l = omega (arith, ap length e)

one_time : (times : List ℕ) (i j : ℕ) → IsFirstLong times i → IsFirstLong times j → i ≡ j
one_time times i j f g = elim (cases_lt i j) [
  | inl l ↦ absurd (omega (arith, f.above, g.first i l))
  | inr h ↦ elim (cases_eq i j) [ inl e ↦ e | inr n ↦ absurd (omega (arith, g.above, f.first j (omega arith))) ]
]

one_bad : (n : ℕ) (arcs : List Prec) (k m : ℕ) → IsFirstBad n arcs k → IsFirstBad n arcs m → k ≡ m
one_bad n arcs k m f g = elim (cases_lt k m) [
  | inl l ↦ absurd (f.bad (g.first k l))
  | inr h ↦ elim (cases_eq k m) [ inl e ↦ e | inr d ↦ absurd (g.bad (f.first m (omega arith))) ]
]

pub answers : AnswerIsOne
answers times arcs (Good a) (Good b) x y = ap Good (one_instance times arcs a b x y)
answers times arcs (Good a) NoTasks x y = absurd (none_some times y x.right.some)
answers times arcs (Good a) (TooManyTasks n) x y = absurd (omega (arith, y.0, y.1, x.right.few))
answers times arcs (Good a) (BadTime i) x y = absurd (long_limit times i y.2 x.right)
answers times arcs (Good a) (BadArc k) x y = absurd (bad_named (length times) arcs k y.1 x.named)
answers times arcs (Good a) (Cycle r) x y = absurd (no_ring times arcs a r x y.2)
answers times arcs (Good a) NoMemory x y = tt
answers times arcs NoTasks (Good b) x y = absurd (none_some times x y.right.some)
answers times arcs NoTasks NoTasks x y = refl
answers times arcs NoTasks (TooManyTasks n) x y = absurd (omega (arith, y.0, y.1, ap length x))
answers times arcs NoTasks (BadTime i) x y = absurd (none_some times x y.0)
answers times arcs NoTasks (BadArc k) x y = absurd (none_some times x y.0.some)
answers times arcs NoTasks (Cycle r) x y = absurd (none_some times x y.0.some)
answers times arcs NoTasks NoMemory x y = tt
answers times arcs (TooManyTasks n) (Good b) x y = absurd (omega (arith, x.0, x.1, y.right.few))
answers times arcs (TooManyTasks n) NoTasks x y = absurd (omega (arith, x.0, x.1, ap length y))
answers times arcs (TooManyTasks n) (TooManyTasks m) x y = ap TooManyTasks (x.0 ∙ sym y.0)
answers times arcs (TooManyTasks n) (BadTime i) x y = absurd (omega (arith, x.0, x.1, y.1))
answers times arcs (TooManyTasks n) (BadArc k) x y = absurd (omega (arith, x.0, x.1, y.0.few))
answers times arcs (TooManyTasks n) (Cycle r) x y = absurd (omega (arith, x.0, x.1, y.0.few))
answers times arcs (TooManyTasks n) NoMemory x y = tt
answers times arcs (BadTime i) (Good b) x y = absurd (long_limit times i x.2 y.right)
answers times arcs (BadTime i) NoTasks x y = absurd (none_some times y x.0)
answers times arcs (BadTime i) (TooManyTasks n) x y = absurd (omega (arith, y.0, y.1, x.1))
answers times arcs (BadTime i) (BadTime j) x y = ap BadTime (one_time times i j x.2 y.2)
answers times arcs (BadTime i) (BadArc k) x y = absurd (long_limit times i x.2 y.0)
answers times arcs (BadTime i) (Cycle r) x y = absurd (long_limit times i x.2 y.0)
answers times arcs (BadTime i) NoMemory x y = tt
answers times arcs (BadArc k) (Good b) x y = absurd (bad_named (length times) arcs k x.1 y.named)
answers times arcs (BadArc k) NoTasks x y = absurd (none_some times y x.0.some)
answers times arcs (BadArc k) (TooManyTasks n) x y = absurd (omega (arith, y.0, y.1, x.0.few))
answers times arcs (BadArc k) (BadTime i) x y = absurd (long_limit times i y.2 x.0)
answers times arcs (BadArc k) (BadArc m) x y = ap BadArc (one_bad (length times) arcs k m x.1 y.1)
answers times arcs (BadArc k) (Cycle r) x y = absurd (bad_named (length times) arcs k x.1 y.1)
answers times arcs (BadArc k) NoMemory x y = tt
answers times arcs (Cycle r) (Good b) x y = absurd (no_ring times arcs b r y x.2)
answers times arcs (Cycle r) NoTasks x y = absurd (none_some times y x.0.some)
answers times arcs (Cycle r) (TooManyTasks n) x y = absurd (omega (arith, y.0, y.1, x.0.few))
answers times arcs (Cycle r) (BadTime i) x y = absurd (long_limit times i y.2 x.0)
answers times arcs (Cycle r) (BadArc k) x y = absurd (bad_named (length times) arcs k y.1 x.1)
answers times arcs (Cycle r) (Cycle s) x y = tt
answers times arcs (Cycle r) NoMemory x y = tt
answers times arcs NoMemory b x y = tt

-- a rising list rises from place to place
rising : (list : List ℕ) → ((k : ℕ) → k + 1 < length list → at list k < at list (k + 1)) → (k m : ℕ) → k < m
    → m < length list → at list k < at list m
rising list h k zero l w = absurd (omega arith)
rising list h k (suc m) l w =
    let next : m + 1 ≡ suc m = omega arith in
    let step : at list m < at list (suc m) = (let P : ℕ → Type 0 = λ z. at list m < at list z in
    subst P next (h m (omega arith))) in
    elim (cases_eq k m) [
      | inl e ↦ (let P : ℕ → Type 0 = λ z. at list z < at list (suc m) in subst P (sym e) step)
      | inr n ↦ omega (arith, step, rising list h k m (omega arith) (omega arith))
    ]

module _ (line : Line) (i : ℕ) where
  -- where two lists of kept partners agree below k, the one has a partner there and it is no greater
  no_greater : (a b : List ℕ) (k : ℕ) → AreKept line i a → AreKept line i b → ((m : ℕ) → m < k → at a m ≡ at b m)
      → k < length a → (k < length b) × (at b k ≤ at a k)
  no_greater a b k x y agree l = elim (y.first (at a k) (x.right k l)) [
    | inl s ↦ elim (cases_lt s.0 k) [
      | inl c ↦ absurd (omega (arith, agree s.0 c, s.2, rising a x.rises s.0 k c l))
      | inr c ↦ (
        omega (arith, s.1),
        elim (cases_eq s.0 k) [
          | inl e ↦ (let P : ℕ → Type 0 = λ z. at b z ≤ at a k in subst P e (omega (arith, s.2)))
          | inr n ↦ omega (arith, s.2, rising b y.rises k s.0 (omega arith) s.1)
        ],
      )
    ]
    | inr s ↦ (let w : k < length b = omega (arith, s.0, x.few) in (w, omega (arith, s.1 k w)))
  ]

  agree : (a b : List ℕ) → AreKept line i a → AreKept line i b → (k m : ℕ) → m < k → m < length a
      → (m < length b) × (at a m ≡ at b m)
  agree a b x y zero m h l = absurd (omega arith)
  agree a b x y (suc k) m h l = elim (cases_lt m k) [
    | inl s ↦ agree a b x y k m s l
    | inr s ↦ (let old : (j : ℕ) → j < m → at a j ≡ at b j = λ j w. (agree a b x y k j (omega arith) (omega arith)).1 in
        let p : (m < length b) × (at b m ≤ at a m) = no_greater a b m x y old l in
        let q : (m < length a) × (at a m ≤ at b m) = no_greater b a m y x (λ j w. sym (old j w)) p.0 in
        (p.0, omega (arith, p.1, q.1)))
  ]

  no_longer : (a b : List ℕ) → AreKept line i a → AreKept line i b → length a ≤ length b
  no_longer a b x y = elim (cases_lt (length b) (length a)) [
    | inl l ↦ absurd (omega (arith, (agree a b x y (suc (length b)) (length b) (omega arith) l).0))
    | inr g ↦ omega arith
  ]

pub kept_is_one : KeptIsOne
kept_is_one line i a b x y = ext_get_or 0 a b (omega (arith, no_longer line i a b x y, no_longer line i b a y x))
    (λ m l. (agree line i a b x y (suc m) m (omega arith) l).1)

pub instance_is_one : InstanceIsOne
instance_is_one = one_instance

pub after_is_converse : AfterIsTheConverse
after_is_converse = record {
  one = λ line i a b p q. same_members a b p.set.truths q.set.truths
      (λ j. (λ m. (q.members j).1 ((p.members j).0 m), λ m. (p.members j).1 ((q.members j).0 m)));
  converse = λ line i j s p. p.members j;
}

pub ranks_inverse : RanksAreInverse
ranks_inverse line ranked rank h k l =
    let t : IsRankOf line (at_rank line k) (rank (at_rank line k)) = h (at_rank line k) (ranked.task k l) in
    ranked.once (rank (at_rank line k)) k t.rank l t.task
