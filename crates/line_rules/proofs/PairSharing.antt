-- What pairs refute has no balance: a station has at most one task of two, or two of the tasks `one`.
use Rattle.std.proofs.Common.{◌≡◌, ◌≢◌, ℕ, zero, suc, ◌+◌, ◌*◌, ◌<◌, ◌≤◌, Bool, true, false, cond, ◌&&◌, not}
use Rattle.std.proofs.Common.{nat_eq, List, [], ◌∷◌, length, get_or, refl, sym, ap, ◌∙◌, subst, ◌⊎◌, inl, inr, arith}
use Rattle.std.proofs.lemmas.Bool.{and_parts, and_from, eqb-true, eq-eqb, eqb-false, or_cases, not-true, cases_Bool}
use Rattle.std.proofs.lemmas.Bool.{cases_eq, false_from_ne_true}
use Rattle.line_instance.specs.Truths.{In, count}
use Rattle.line_instance.specs.Line.{Line, IsLine, IsTaskSet, Before, time, has, is_before}
use Rattle.line_instance.specs.Sums.{weigh, sum_where}
use Rattle.line_instance.proofs.Counts.{count_first}
use Rattle.line_instance.proofs.Sums.{weigh-le, weigh-none, weigh-one, weigh-split, weigh-more}
use Rattle.line_rules.specs.Balance.{IsBalance, Holds}
use Rattle.line_rules.specs.declared.types.LineKind.{LineKind}
use Rattle.line_rules.specs.declared.types.LineKind.TheVariants.{Straight, U}
use Rattle.line_rules.specs.declared.types.Seatplace.{Seatplace}
use Rattle.line_rules.proofs.BoundIsTrue.{cond_le}
use Rattle.line_rules.proofs.OneTaskPerStation.{count_below}
use Rattle.line_rules.specs.Pairs.{is_between, time_between, Conflict, IsOne, IsRefutedByPairs}

-- two sums over tasks at m stations, of which each has k of both at most, are m * k together at most
both-stations : (u v : ℕ → ℕ) (ts : List ℕ) (at : ℕ → ℕ) (k m : ℕ) (p q : ℕ → Bool)
    → ((i : ℕ) → p i ≡ true → (1 ≤ at i) × (at i ≤ m)) → ((i : ℕ) → q i ≡ true → (1 ≤ at i) × (at i ≤ m))
    → ((s : ℕ) → weigh u (λ i. p i && nat_eq (at i) s) ts + weigh v (λ i. q i && nat_eq (at i) s) ts ≤ k)
    → weigh u p ts + weigh v q ts ≤ m * k
both-stations u v ts at k zero p q f g h = omega (
  arith,
  weigh-none u p (λ i. false_from_ne_true (p i) (λ t. omega (arith, f i t))) ts,
  weigh-none v q (λ i. false_from_ne_true (q i) (λ t. omega (arith, g i t))) ts,
)
both-stations u v ts at k (suc m) p q f g h =
    let left : (r : ℕ → Bool) → ((i : ℕ) → r i ≡ true → (1 ≤ at i) × (at i ≤ suc m)) → (i : ℕ)
    → (r i && not (nat_eq (at i) (suc m))) ≡ true → (1 ≤ at i) × (at i ≤ m) = λ r range i e.
    let d : (r i ≡ true) × (not (nat_eq (at i) (suc m)) ≡ true) = and_parts (r i) (not (nat_eq (at i) (suc m))) e in
    let n : at i ≢ suc m = eqb-false (at i) (suc m) (not-true (nat_eq (at i) (suc m)) d.1) in
    (omega (arith, range i d.0), omega (arith, range i d.0, n)) in
    let less : (w : ℕ → ℕ) (r : ℕ → Bool) (s : ℕ)
    → weigh w (λ i. (r i && not (nat_eq (at i) (suc m))) && nat_eq (at i) s) ts
    ≤ weigh w (λ i. r i && nat_eq (at i) s) ts = λ w r s.
    weigh-le w (λ i. (r i && not (nat_eq (at i) (suc m))) && nat_eq (at i) s) (λ i. r i && nat_eq (at i) s)
    (λ i e. let d : ((r i && not (nat_eq (at i) (suc m))) ≡ true) × (nat_eq (at i) s ≡ true) =
    and_parts (r i && not (nat_eq (at i) (suc m))) (nat_eq (at i) s) e in
    and_from (r i) (nat_eq (at i) s) (and_parts (r i) (not (nat_eq (at i) (suc m))) d.0).0 d.1) ts in
    omega (
      arith,
      both-stations u v ts at k m (λ i. p i && not (nat_eq (at i) (suc m))) (λ i. q i && not (nat_eq (at i) (suc m)))
          (left p f) (left q g) (λ s. omega (arith, h s, less u p s, less v q s)),
      h (suc m),
      weigh-split u p (λ i. nat_eq (at i) (suc m)) ts,
      weigh-split v q (λ i. nat_eq (at i) (suc m)) ts,
    )

-- two tasks weigh no more than all
weigh-two : (w : ℕ → ℕ) (p : ℕ → Bool) (i j : ℕ) (ts : List ℕ) → i ≢ j → i < length ts → j < length ts → p i ≡ true
    → p j ≡ true → w (get_or ts i 0) + w (get_or ts j 0) ≤ weigh w p ts
weigh-two w p i j ts n l m e f = omega (
  arith,
  weigh-split w p (λ k. nat_eq k i) ts,
  weigh-one w (λ k. p k && nat_eq k i) i ts l (and_from (p i) (nat_eq i i) e (eq-eqb i i refl)),
  weigh-one w (λ k. p k && not (nat_eq k i)) j ts m (and_from (p j) (not (nat_eq j i)) f
      (ap not (false_from_ne_true (nat_eq j i) (λ t. n (sym (eqb-true j i t)))))),
)

-- where one task alone is picked, it has all the weight
weigh-alone : (w : ℕ → ℕ) (p : ℕ → Bool) (i : ℕ) (ts : List ℕ) → i < length ts → ((j : ℕ) → p j ≡ true → j ≡ i)
    → weigh w p ts ≤ w (get_or ts i 0)
weigh-alone w p i ts l h = omega (
  arith,
  weigh-more w p (λ j. false) i refl (λ j n. false_from_ne_true (p j) (λ e. n (h j e))) ts l,
  weigh-none w (λ j. false) (λ j. refl) ts,
  cond_le (p i) (w (get_or ts i 0)) (w (get_or ts i 0)) (λ e. omega arith),
)

-- a test picks a task, or nothing weighs anything
some_picked : (w : ℕ → ℕ) (p : ℕ → Bool) (ts : List ℕ) → (weigh w p ts ≡ 0) ⊎ ((i : ℕ) × (i < length ts) × (p i ≡ true))
some_picked w p [] = inl refl
some_picked w p (t ∷ ts) = elim (cases_Bool (p 0)) [
  | inl y ↦ inr (0, omega arith, y)
  | inr n ↦ elim (some_picked w (λ i. p (suc i)) ts) [
    | inl e ↦ (let z : cond (p 0) (w t) 0 ≡ 0 = ap (λ b. cond b (w t) 0) n in inl (omega (arith, z, e)))
    | inr m ↦ inr (suc m.0, omega (arith, m.1), m.2)
  ]
]

-- tasks above a third of c
third_here : (c : ℕ) (b : Bool) (t x y : ℕ) → (b ≡ true → c < 3 * t) → x * (c + 1) ≤ 3 * y
    → (cond b 1 0 + x) * (c + 1) ≤ 3 * (cond b t 0 + y)
third_here c true t x y h e = omega (arith, e, h refl)
third_here c false t x y h e = omega (arith, e)

thirds : (c : ℕ) (p : ℕ → Bool) (ts : List ℕ) → ((i : ℕ) → i < length ts → p i ≡ true → c < 3 * get_or ts i 0)
    → weigh (λ t. 1) p ts * (c + 1) ≤ 3 * sum_where p ts
thirds c p [] h = omega arith
thirds c p (t ∷ ts) h = third_here c (p 0) t (weigh (λ t. 1) (λ i. p (suc i)) ts) (sum_where (λ i. p (suc i)) ts)
    (λ e. h 0 (omega arith) e) (thirds c (λ i. p (suc i)) ts (λ i l e. h (suc i) (omega arith) e))

-- so at most two of them fit
few : (x y c : ℕ) → x * (c + 1) ≤ 3 * y → y ≤ c → x ≤ 2
few zero y c h l = omega arith
few (suc zero) y c h l = omega arith
few (suc (suc zero)) y c h l = omega arith
few (suc (suc (suc x))) y c h l = absurd (omega (arith, h, l))

-- each member weighs n
count_here : (n : ℕ) (b : Bool) (bs : List Bool) (x : ℕ) → x ≡ n * count bs → cond b n 0 + x ≡ n * count (b ∷ bs)
count_here n true bs x e = omega (arith, e, ap (λ k. n * k) (count_first true bs))
count_here n false bs x e = omega (arith, e, ap (λ k. n * k) (count_first false bs))

pub weigh-count : (n : ℕ) (s : List Bool) (ts : List ℕ) → ((i : ℕ) → In s i → i < length ts)
    → weigh (λ t. n) (has s) ts ≡ n * count s
weigh-count n [] ts h = omega (arith, weigh-none (λ t. n) (has []) (λ i. refl) ts)
weigh-count n (b ∷ bs) [] h =
    let e : count (b ∷ bs) ≡ 0 = omega (arith, count_below (b ∷ bs) 0 h) in
    omega (arith, ap (λ k. n * k) e)
weigh-count n (b ∷ bs) (t ∷ ts) h = count_here n b bs (weigh (λ t. n) (has bs) ts)
    (weigh-count n bs ts (λ i m. omega (arith, h (suc i) m)))

module _ (line : Line) (ok : IsLine line) (i j : ℕ) where
  -- neither of two tasks lies between them
  not_first : is_between line i j i ≡ true → ⊥
  not_first e = elim (or_cases (is_before line i i && is_before line i j) (is_before line j i && is_before line i i) e) [
    | inl l ↦ ok.not_itself i (and_parts (is_before line i i) (is_before line i j) l).0
    | inr r ↦ ok.not_itself i (and_parts (is_before line j i) (is_before line i i) r).1
  ]

  not_second : is_between line i j j ≡ true → ⊥
  not_second e = elim (or_cases (is_before line i j && is_before line j j) (is_before line j j && is_before line j i) e) [
    | inl l ↦ ok.not_itself j (and_parts (is_before line i j) (is_before line j j) l).1
    | inr r ↦ ok.not_itself j (and_parts (is_before line j j) (is_before line j i) r).0
  ]

module _ (line : Line) (ok : IsLine line) (c : ℕ) (R : List Bool) (set : IsTaskSet line R) (r : ℕ)
    (place : ℕ → Seatplace) where
  -- whether a task of R stands at a station
  stands : ℕ → ℕ → Bool
  stands s i = has R i && nat_eq (place i).station s

  -- on a straight line what lies between two tasks of a station stands there too
  there : IsBalance Straight line c R r place → (i j : ℕ) → In R i → In R j → (place i).station ≡ (place j).station
      → (k : ℕ) → (has R k && is_between line i j k) ≡ true → stands (place i).station k ≡ true
  unfolding stands
  there b i j mi mj same k e =
      let q : In R k × (is_between line i j k ≡ true) = and_parts (has R k) (is_between line i j k) e in
      and_from (has R k) (nat_eq (place k).station (place i).station) q.0 (eq-eqb (place k).station (place i).station
      (elim (or_cases (is_before line i k && is_before line k j) (is_before line j k && is_before line k i) q.1) [
        | inl l ↦ (
            let d : Before line i k × Before line k j = and_parts (is_before line i k) (is_before line k j) l in
            omega (arith, same, b.keeps i k mi q.0 d.0, b.keeps k j q.0 mj d.1)
            )
        | inr l ↦ (
            let d : Before line j k × Before line k i = and_parts (is_before line j k) (is_before line k i) l in
            omega (arith, same, b.keeps j k mj q.0 d.0, b.keeps k i q.0 mi d.1)
            )
      ]))

  -- so two tasks of a station fit it with what lies between them
  fit : (kind : LineKind) → IsBalance kind line c R r place → (i j : ℕ) → In R i → In R j → i ≢ j
      → (place i).station ≡ (place j).station → time line i + time line j + time_between kind line R i j ≤ c
  unfolding stands time_between
  fit Straight b i j mi mj n same =
      let s : ℕ = (place i).station in
      let between : ℕ → Bool = λ k. has R k && is_between line i j k in
      omega (
        arith,
        b.fits s,
        weigh-split (λ t. t) (stands s) between line.times,
        weigh-le (λ t. t) between (λ k. stands s k && between k)
            (λ k e. and_from (stands s k) (between k) (there b i j mi mj same k e) e) line.times,
        weigh-two (λ t. t) (λ k. stands s k && not (between k)) i j line.times n (set.tasks i mi) (set.tasks j mj)
            (and_from (stands s i) (not (between i)) (and_from (has R i) (nat_eq s s) mi (eq-eqb s s refl))
            (ap not (false_from_ne_true (between i)
            (λ e. not_first line ok i j (and_parts (has R i) (is_between line i j i) e).1))))
            (and_from (stands s j) (not (between j))
            (and_from (has R j) (nat_eq (place j).station s) mj (eq-eqb (place j).station s (sym same)))
            (ap not (false_from_ne_true (between j)
            (λ e. not_second line ok i j (and_parts (has R j) (is_between line i j j) e).1)))),
      )
  fit U b i j mi mj n same =
      let s : ℕ = (place i).station in
      omega (
        arith,
        b.fits s,
        weigh-two (λ t. t) (stands s) i j line.times n (set.tasks i mi) (set.tasks j mj)
            (and_from (has R i) (nat_eq s s) mi (eq-eqb s s refl))
            (and_from (has R j) (nat_eq (place j).station s) mj (eq-eqb (place j).station s (sym same))),
      )

  module _ (kind : LineKind) (b : IsBalance kind line c R r place) where
    -- two tasks that share a station don't conflict
    share : (i j : ℕ) → In R i → In R j → i ≢ j → (place i).station ≡ (place j).station → Conflict kind line c R i j
        → ⊥
    share i j mi mj n same x = elim x [
      | inl a ↦ b.parted i j mi mj a same
      | inr l ↦ omega (arith, l, fit kind b i j mi mj n same)
    ]

    module _ (two one : List Bool) (within : (i : ℕ) → In two i → In R i)
        (apart : (i j : ℕ) → In two i → In two j → i ≢ j → Conflict kind line c R i j)
        (ones : (j : ℕ) → In one j → IsOne kind line c R two j) where
      in_R : (j : ℕ) → In one j → In R j
      in_R j m = (ones j m).member

      -- tasks of one station
      same_station : (s i j : ℕ) → nat_eq (place i).station s ≡ true → nat_eq (place j).station s ≡ true
          → (place i).station ≡ (place j).station
      same_station s i j e f = eqb-true (place i).station s e ∙ sym (eqb-true (place j).station s f)

      at_two : ℕ → ℕ → Bool
      at_two s i = has two i && nat_eq (place i).station s

      at_one : ℕ → ℕ → Bool
      at_one s i = has one i && nat_eq (place i).station s

      -- no station has more than two, where a task of two counts twice
      no_more : (s : ℕ) → weigh (λ t. 2) (at_two s) line.times + weigh (λ t. 1) (at_one s) line.times ≤ 2
      unfolding at_two at_one
      no_more s = elim (some_picked (λ t. 2) (at_two s) line.times) [
        | inl e ↦ omega (
          arith,
          e,
          few (weigh (λ t. 1) (at_one s) line.times) (sum_where (at_one s) line.times) c
              (thirds c (at_one s) line.times (λ j l f. (ones j
              (and_parts (has one j) (nat_eq (place j).station s) f).0).long))
              (omega (
                arith,
                b.fits s,
                weigh-le (λ t. t) (at_one s) (λ i. has R i && nat_eq (place i).station s)
                    (λ j f. let q : In one j × (nat_eq (place j).station s ≡ true) =
                    and_parts (has one j) (nat_eq (place j).station s) f in
                    and_from (has R j) (nat_eq (place j).station s) (in_R j q.0) q.1) line.times,
              )),
        )
        | inr m ↦ (
            let i : ℕ = m.0 in
            let q : In two i × (nat_eq (place i).station s ≡ true) =
            and_parts (has two i) (nat_eq (place i).station s) m.2 in
            omega (
              arith,
              weigh-alone (λ t. 2) (at_two s) i line.times m.1 (λ j f.
                  let p : In two j × (nat_eq (place j).station s ≡ true) =
                  and_parts (has two j) (nat_eq (place j).station s) f in
                  elim (cases_eq j i) [
                    | inl e ↦ e
                    | inr n ↦ absurd (share j i (within j p.0) (within i q.0) n (same_station s j i p.1 q.1)
                        (apart j i p.0 q.0 n))
                  ]),
              weigh-none (λ t. 1) (at_one s) (λ j. false_from_ne_true (at_one s j) (λ f.
                  let p : In one j × (nat_eq (place j).station s ≡ true) =
                  and_parts (has one j) (nat_eq (place j).station s) f in
                  let n : i ≢ j = λ e. (ones j p.0).outside (let P : ℕ → Type 0 = λ k. In two k in subst P e q.0) in
                  share i j (within i q.0) (in_R j p.0) n (same_station s i j q.1 p.1) ((ones j p.0).conflicts i q.0)))
                  line.times,
            )
            )
      ]

      pub enough : 2 * count two + count one ≤ 2 * r
      unfolding at_two at_one
      enough = omega (
        arith,
        both-stations (λ t. 2) (λ t. 1) line.times (λ i. (place i).station) 2 r (has two) (has one)
            (λ i m. (b.first i (within i m), b.last i (within i m)))
            (λ j m. (b.first j (in_R j m), b.last j (in_R j m))) no_more,
        weigh-count 2 two line.times (λ i m. set.tasks i (within i m)),
        weigh-count 1 one line.times (λ j m. set.tasks j (in_R j m)),
      )

-- what follows by pairs holds
pub sound : (kind : LineKind) (line : Line) (c : ℕ) (R : List Bool) (most : ℕ) (two : List Bool) → IsLine line
    → IsTaskSet line R → IsRefutedByPairs kind line c R most two → Holds kind line c R most
sound kind line c R most two ok set h place b = omega (
  arith,
  h.exceeds,
  enough line ok c R set most place kind b two h.one h.within h.conflict (λ j m. (h.ones.members j).0 m),
)
