-- A balance has no fewer stations than the bound.
use Rattle.std.proofs.Common.{◌≡◌, ◌≢◌, ℕ, zero, suc, ◌+◌, ◌-◌, ◌*◌, ◌<◌, ◌≤◌, max, Bool, true, false, cond, ◌&&◌, ◌||◌}
use Rattle.std.proofs.Common.{nat_eq, nat_lt, List, [], ◌∷◌, length, get_or, refl, sym, ap, ◌∙◌, ◌⊎◌, inl, inr, arith}
use Rattle.line_instance.specs.Truths.{In, count}
use Rattle.line_instance.specs.Line.{Line, tasks, has, is_before}
use Rattle.line_instance.specs.Sums.{weigh, sum_where, count_where}
use Rattle.line_rules.specs.Balance.{IsBalance, all_tasks}
use Rattle.line_rules.specs.Bounds.{up, lm1, lm2, lm3, sixths, head, tail, greatest_below, chained, bound, total_bound}
use Rattle.line_rules.specs.declared.types.LineKind.{LineKind}
use Rattle.line_rules.specs.declared.types.LineKind.TheVariants.{Straight, U}
use Rattle.line_rules.specs.declared.types.Seatplace.{Seatplace}
use Rattle.line_instance.proofs.Sums.{weigh-one, weigh-stations, weigh-joined, sum_where-le}
use Rattle.std.proofs.lemmas.Bool.{and_parts, and_from, eqb-true, eq-eqb, or_cases, cases_lt, le-ltb}
use Rattle.std.proofs.lemmas.List.Sums.{sum_by-cons}
use Rattle.std.proofs.lemmas.Bool.Decides.{nat_tests}
use Rattle.std.proofs.Math.Nat.{div-lt_iff_lt-mul, le_of_eq}

-- halves of a station
halves : ℕ → ℕ → ℕ
halves c t = cond (nat_lt c (2 * t)) 2 (cond (nat_eq (2 * t) c) 1 0)

halves_join : (c : ℕ) → 1 ≤ c → (a b : ℕ) → a + b ≤ c → halves c a + halves c b ≤ halves c (a + b)
unfolding halves
halves_join c o a b l = grind (arith, nat_tests)

halves_whole : (c t : ℕ) → halves c t ≤ 2
unfolding halves
halves_whole c t = grind (arith, nat_tests)

sixths_join : (c : ℕ) → 1 ≤ c → (a b : ℕ) → a + b ≤ c → sixths c a + sixths c b ≤ sixths c (a + b)
unfolding sixths
sixths_join c o a b l = grind (arith, nat_tests)

pub sixths_whole : (c t : ℕ) → sixths c t ≤ 6
unfolding sixths
sixths_whole c t = grind (arith, nat_tests)

-- what is r times b at most is r at most, divided by b and rounded up
pub up_le : (a b r : ℕ) → 1 ≤ b → a ≤ r * b → up a b ≤ r
up_le a b r o l = omega (arith, (div-lt_iff_lt-mul {k = b} {x = a + (b - 1)} {y = suc r} o).1 (omega arith))

-- a weight of halves is two for each large task and one for each of half a cycle
halves_of : (c t : ℕ) → halves c t ≡ 2 * cond (nat_lt c (2 * t)) 1 0 + cond (nat_eq (2 * t) c) 1 0
unfolding halves
halves_of c t = grind (arith, nat_tests)

counted_more : (c : ℕ) (b : Bool) (t x y z : ℕ) → x ≡ 2 * y + z
    → cond b (halves c t) 0 + x ≡ 2 * (cond b (cond (nat_lt c (2 * t)) 1 0) 0 + y) + (cond b
    (cond (nat_eq (2 * t) c) 1 0) 0 + z)
counted_more c true t x y z e = omega (arith, e, halves_of c t)
counted_more c false t x y z e = omega (arith, e)

counted : (c : ℕ) (p : ℕ → Bool) (ts : List ℕ) → weigh (halves c) p ts
    ≡ 2 * count_where (λ t. nat_lt c (2 * t)) p ts + count_where (λ t. nat_eq (2 * t) c) p ts
counted c p [] = omega arith
counted c p (t ∷ ts) = counted_more c (p 0) t (weigh (halves c) (λ i. p (suc i)) ts)
    (count_where (λ t. nat_lt c (2 * t)) (λ i. p (suc i)) ts) (count_where (λ t. nat_eq (2 * t) c) (λ i. p (suc i)) ts)
    (counted c (λ i. p (suc i)) ts)

pub greatest_le : (n : ℕ) (f : ℕ → ℕ) (r : ℕ) → ((j : ℕ) → f j ≤ r) → greatest_below n f ≤ r
greatest_le zero f r h = omega arith
greatest_le (suc n) f r h = omega (arith, h n, greatest_le n f r h)

module _ (line : Line) (c : ℕ) (positive : 1 ≤ c) (R : List Bool) (r : ℕ) (place : ℕ → Seatplace) (kind : LineKind)
    (b : IsBalance kind line c R r place) where
  station : ℕ → ℕ
  station i = (place i).station

  -- the weight of the tasks that p picks, at stations of which each weighs k at most
  weighed : (w : ℕ → ℕ) (k a m : ℕ) (p : ℕ → Bool) → ((i j : ℕ) → i + j ≤ c → w i + w j ≤ w (i + j))
      → ((t : ℕ) → t ≤ c → w t ≤ k)
      → ((i : ℕ) → p i ≡ true → In R i) → ((i : ℕ) → p i ≡ true → (a < station i) × (station i ≤ a + m))
      → weigh w p line.times ≤ m * k
  unfolding station
  weighed w k a m p join whole in_R range =
      weigh-stations w line.times station k a m p range
      (λ s.
      let small : sum_where (λ i. p i && nat_eq (place i).station s) line.times ≤ c =
      omega (
        arith,
        b.fits s,
        sum_where-le (λ i. p i && nat_eq (place i).station s) (λ i. has R i && nat_eq (place i).station s)
            (λ i e. let q : (p i ≡ true) × (nat_eq (place i).station s ≡ true) =
            and_parts (p i) (nat_eq (place i).station s) e in
            and_from (has R i) (nat_eq (place i).station s) (in_R i q.0) q.1) line.times,
      ) in
      omega (
        arith,
        weigh-joined w c join (λ i. p i && nat_eq (place i).station s) line.times small,
        whole (sum_where (λ i. p i && nat_eq (place i).station s) line.times) small,
      ))

  all_weighed : (w : ℕ → ℕ) (k : ℕ) → ((i j : ℕ) → i + j ≤ c → w i + w j ≤ w (i + j)) → ((t : ℕ) → t ≤ c → w t ≤ k)
      → weigh w (has R) line.times ≤ r * k
  unfolding station
  all_weighed w k join whole = weighed w k 0 r (has R) join whole (λ i e. e)
      (λ i e. (omega (arith, b.first i e), omega (arith, b.last i e)))

  lm1_le : lm1 line c R ≤ r
  unfolding lm1
  lm1_le = up_le (sum_where (has R) line.times) c r positive (all_weighed (λ t. t) c (λ i j l. omega arith) (λ t l. l))

  lm2_le : lm2 line c R ≤ r
  unfolding lm2
  lm2_le = omega (
    arith,
    counted c (has R) line.times,
    all_weighed (halves c) 2 (halves_join c positive)
        (λ t l. halves_whole c t),
  )

  lm3_le : lm3 line c R ≤ r
  unfolding lm3
  lm3_le = up_le (weigh (sixths c) (has R) line.times) 6 r (omega arith)
      (all_weighed (sixths c) 6 (sixths_join c positive) (λ t l. sixths_whole c t))

module _ (line : Line) (c : ℕ) (positive : 1 ≤ c) (R : List Bool) (r : ℕ) (place : ℕ → Seatplace)
    (b : IsBalance Straight line c R r place) (j : ℕ) (in_R : In R j) where
  no_later : (i : ℕ) → (has R i && (nat_eq i j || is_before line i j)) ≡ true
      → In R i × ((place i).station ≤ (place j).station)
  no_later i e =
      let q : In R i × ((nat_eq i j || is_before line i j) ≡ true) =
      and_parts (has R i) (nat_eq i j || is_before line i j) e in (
        q.0,
        elim (or_cases (nat_eq i j) (is_before line i j) q.1) [
          | inl s ↦ le_of_eq (ap (λ k. (place k).station) (eqb-true i j s))
          | inr w ↦ b.keeps i j q.0 in_R w
        ],
      )

  no_earlier : (i : ℕ) → (has R i && (nat_eq i j || is_before line j i)) ≡ true
      → In R i × ((place j).station ≤ (place i).station)
  no_earlier i e =
      let q : In R i × ((nat_eq i j || is_before line j i) ≡ true) =
      and_parts (has R i) (nat_eq i j || is_before line j i) e in (
        q.0,
        elim (or_cases (nat_eq i j) (is_before line j i) q.1) [
          | inl s ↦ le_of_eq (ap (λ k. (place k).station) (sym (eqb-true i j s)))
          | inr w ↦ b.keeps j i in_R q.0 w
        ],
      )

  head_le : head line c R j ≤ (place j).station
  unfolding head station
  head_le = up_le (sum_where (λ i. has R i && (nat_eq i j || is_before line i j)) line.times) c (place j).station
      positive
      (weighed line c positive R r place Straight b (λ t. t) c 0 (place j).station
      (λ i. has R i && (nat_eq i j || is_before line i j)) (λ i k l. omega arith) (λ t l. l)
      (λ i e. (no_later i e).0)
      (λ i e. (omega (arith, b.first i (no_later i e).0), omega (arith, (no_later i e).1))))

  tail_le : tail line c R j ≤ r - (place j).station + 1
  unfolding tail station
  tail_le = up_le (sum_where (λ i. has R i && (nat_eq i j || is_before line j i)) line.times) c
      (r - (place j).station + 1) positive
      (weighed line c positive R r place Straight b (λ t. t) c ((place j).station - 1) (r - (place j).station + 1)
      (λ i. has R i && (nat_eq i j || is_before line j i)) (λ i k l. omega arith) (λ t l. l)
      (λ i e. (no_earlier i e).0)
      (λ i e. (
        omega (arith, b.first j in_R, (no_earlier i e).1),
        omega (arith, b.first j in_R, b.last i (no_earlier i e).0),
      )))

  around_le : head line c R j + tail line c R j - 1 ≤ r
  around_le = omega (arith, head_le, tail_le, b.first j in_R, b.last j in_R)

pub cond_le : (t : Bool) (x r : ℕ) → (t ≡ true → x ≤ r) → cond t x 0 ≤ r
cond_le true x r h = h refl
cond_le false x r h = omega arith

chained_le : (kind : LineKind) (line : Line) (c : ℕ) → 1 ≤ c → (R : List Bool) (r : ℕ) (place : ℕ → Seatplace)
    → IsBalance kind line c R r place → chained kind line c R ≤ r
unfolding chained
chained_le Straight line c o R r place b =
    greatest_le (tasks line) (λ j. cond (has R j) (head line c R j + tail line c R j - 1) 0) r
    (λ j. cond_le (has R j) (head line c R j + tail line c R j - 1) r (λ m. around_le line c o R r place b j m))
chained_le U line c o R r place b = omega arith

-- a set has a member, or its count is 0
prefix_some : (s : List Bool) → ((i : ℕ) × In s i) ⊎ (count s ≡ 0)
prefix_some [] = inr refl
prefix_some (true ∷ s) = inl (0, refl)
prefix_some (false ∷ s) = elim (prefix_some s) [
  | inl m ↦ inl (suc m.0, m.1)
  | inr e ↦
      inr (sum_by-cons (λ t. cond t 1 0) false s ∙ omega (arith, e))
]

long_here : {G : Type 0} (c : ℕ) (b : Bool) (t x : ℕ) → x ≡ 0 → (b ≡ true → c < t → G)
    → (cond b (cond (nat_lt c t) 1 0) 0 + x ≡ 0 → G) → G
long_here c true t x e k z = elim (cases_lt c t) [
  | inl l ↦ k refl l
  | inr g ↦
      z (omega (arith, e, ap {B = ℕ} (λ q. cond q 1 0) (le-ltb c t g)))
]
long_here c false t x e k z = z (omega (arith, e))

-- what the bound is at most, by its cases
bound_cases : (n long r m : ℕ) → (0 < long → 1025 ≤ r) → (n ≢ 0 → m ≤ r)
    → cond (nat_eq n 0) 0 (cond (nat_lt 0 long) 1025 m) ≤ r
bound_cases n long r m h k = grind (arith, nat_tests)

-- where some time is too long, there is such a task
long_some : (c : ℕ) (p : ℕ → Bool) (ts : List ℕ) → (count_where (λ t. nat_lt c t) p ts ≡ 0)
    ⊎ ((i : ℕ) × (i < length ts) × (p i ≡ true) × (c < get_or ts i 0))
long_some c p [] = inl refl
long_some c p (t ∷ ts) = elim (long_some c (λ i. p (suc i)) ts) [
  | inl e ↦ long_here c (p 0) t (count_where (λ t. nat_lt c t) (λ i. p (suc i)) ts) e
      (λ q l. inr (0, omega arith, q, l)) (λ z. inl z)
  | inr m ↦ inr (suc m.0, omega (arith, m.1), m.2, m.3)
]

-- a set that isn't empty has a member
pub some_member : (s : List Bool) → count s ≢ 0 → (i : ℕ) × In s i
some_member s h = elim (prefix_some s) [ inl m ↦ m | inr e ↦ absurd (h e) ]

-- a balance of R has at least as many stations as the bound
pub bound_le : (kind : LineKind) (line : Line) (c : ℕ) → 1 ≤ c → (R : List Bool) (r : ℕ) (place : ℕ → Seatplace)
    → IsBalance kind line c R r place → bound kind line c R ≤ r
unfolding bound
bound_le kind line c o R r place b =
    bound_cases (count R) (count_where (λ t. nat_lt c t) (has R) line.times) r
    (max 1 (max (lm1 line c R) (max (lm2 line c R) (max (lm3 line c R) (chained kind line c R)))))
    (λ l. elim (long_some c (has R) line.times) [
      | inl e ↦ omega (arith, e)
      | inr m ↦ absurd (omega (
        arith,
        m.3,
        b.fits (place m.0).station,
        weigh-one (λ t. t) (λ i. has R i && nat_eq (place i).station (place m.0).station) m.0 line.times m.1
            (and_from (has R m.0) (nat_eq (place m.0).station (place m.0).station) m.2
            (eq-eqb (place m.0).station (place m.0).station refl)),
      ))
    ])
    (λ n.
    let m : (i : ℕ) × In R i = some_member R n in
    omega (
      arith,
      b.first m.0 m.1,
      b.last m.0 m.1,
      lm1_le line c o R r place kind b,
      lm2_le line c o R r place kind b,
      lm3_le line c o R r place kind b,
      chained_le kind line c o R r place b,
    ))

-- a balance of all tasks has at least as many stations as the bound by total time, and 1
pub total_bound_le : (kind : LineKind) (line : Line) (c : ℕ) → 1 ≤ c → (i : ℕ) → In (all_tasks line) i
    → (r : ℕ) (place : ℕ → Seatplace) → IsBalance kind line c (all_tasks line) r place → total_bound line c ≤ r
unfolding lm1
total_bound_le kind line c o i m r place b = omega (
  arith,
  b.first i m,
  b.last i m,
  lm1_le line c o (all_tasks line) r place kind b,
)
