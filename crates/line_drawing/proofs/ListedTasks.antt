-- The tasks of a station, listed by rank: they are tasks, each of them once, and their times are that of the station.
use Rattle.std.proofs.Common.{◌≡◌, ◌≢◌, ℕ, zero, suc, ◌+◌, ◌<◌, ◌≤◌, Bool, true, false, cond, ◌++◌, append_assoc}
use Rattle.std.proofs.Common.{append-nil, ◌&&◌, ◌||◌, not, nat_eq, List, [], ◌∷◌, length, get_or, drop, refl, sym, ap}
use Rattle.std.proofs.Common.{◌∙◌, subst, inl, inr, arith}
use Rattle.std.specs.Prelude.{All, filter}
use Rattle.std.specs.List.{AllPairs}
use Rattle.std.proofs.lemmas.Bool.{false≢true, and_parts, and_from, or_cases, or_left, or_right, eqb-true, eq-eqb}
use Rattle.std.proofs.lemmas.Bool.{ne_eqb}
use Rattle.std.proofs.lemmas.List.Elements.{All-filter, All-from_get_or}
use Rattle.std.proofs.lemmas.List.{drop_more}
use Rattle.line_instance.specs.Line.{Line, IsLine, IsRanked, at_rank, has, tasks, time}
use Rattle.line_instance.specs.Sums.{sum_where}
use Rattle.line_instance.proofs.Sums.{weigh-none, weigh-more, weigh-same, weigh-split, same_truth}
use Rattle.line_rules.specs.Balance.{all_tasks, seat}
use Rattle.line_rules.specs.declared.types.Seatplace.{Seatplace}
use Rattle.line_rules.specs.declared.types.Side.{Side}
use Rattle.line_rules.specs.declared.types.Side.TheVariants.{Front, Back}
use Rattle.line_rules.proofs.All.{In-all, In-all_lt}
use Rattle.line_drawing.specs.Segments.{is_side, stands, tasks_at, times_of}
use Rattle.line_drawing.specs.Figures.{sum_at}
use Rattle.line_rules.proofs.Ranks.{or_none}

-- an item of a list, whatever is given past its end
pub same_item : (xs : List ℕ) (k a d : ℕ) → k < length xs → get_or xs k a ≡ get_or xs k d
same_item [] k a d l = absurd (omega arith)
same_item (x ∷ xs) zero a d l = refl
same_item (x ∷ xs) (suc k) a d l = same_item xs k a d (omega (arith, l))

-- whether i is in the list and passes f
abbrev pub picked : (ℕ → Bool) → List ℕ → ℕ → Bool
picked f [] i = false
picked f (x ∷ xs) i = (nat_eq x i && f x) || picked f xs i

-- each task differs from the later ones
tail_pairs : (R : ℕ → ℕ → Type 0) (x : ℕ) (xs : List ℕ) → AllPairs R (x ∷ xs) → AllPairs R xs
tail_pairs R x xs h = λ i j d less within. h (suc i) (suc j) d (omega (arith, less)) (omega (arith, within))

none_picked : (f : ℕ → Bool) (y : ℕ) (xs : List ℕ) → ((k : ℕ) → k < length xs → get_or xs k 0 ≡ y → ⊥)
    → picked f xs y ≡ false
none_picked f y [] h = refl
none_picked f y (x ∷ xs) h =
    let differs : nat_eq x y ≡ false = ne_eqb x y (h 0 (omega arith)) in
    let rest : picked f xs y ≡ false = none_picked f y xs (λ k l. h (suc k) (omega (arith, l))) in
    rw (differs, rest) refl

module _ (line : Line) (f : ℕ → Bool) where
  times_first : (b : Bool) (x : ℕ) (xs : List ℕ) → times_of line (cond b (x ∷ xs) xs)
      ≡ times_of line xs + cond b (time line x) 0
  times_first true x xs = omega arith
  times_first false x xs = omega arith

  -- the tasks of a list that pass weigh what their list has of them
  weigh-picked : (xs : List ℕ) → AllPairs (λ x y. x ≢ y) xs → All (λ x. x < tasks line) xs
      → sum_where (picked f xs) line.times ≡ times_of line (filter f xs)
  weigh-picked [] differ within = weigh-none (λ t. t) (λ i. false) (λ i. refl) line.times
  weigh-picked (x ∷ xs) differ within =
      let none : picked f xs x ≡ false = none_picked f x xs
      (λ k l e. differ 0 (suc k) 0 (omega arith) (omega (arith, l)) (sym e)) in
      let others : (i : ℕ) → (i ≡ x → ⊥) → picked f (x ∷ xs) i ≡ picked f xs i =
      λ i n. ap (λ b. (b && f x) || picked f xs i) (ne_eqb x i (λ e. n (sym e))) in
      let here : picked f (x ∷ xs) x ≡ f x = ap (λ b. (b && f x) || picked f xs x) (eq-eqb x x refl)
      ∙ or_none (f x) (picked f xs x) none in
      let one : cond (picked f (x ∷ xs) x) (time line x) 0 ≡ cond (f x) (time line x) 0 =
      ap (λ b. cond b (time line x) 0) here in
      omega (
        arith,
        weigh-more (λ t. t) (picked f (x ∷ xs)) (picked f xs) x none others line.times (within 0 0 (omega arith)),
        one,
        weigh-picked xs (tail_pairs (λ x y. x ≢ y) x xs differ) (λ i d l. within (suc i) d (omega (arith, l))),
        times_first (f x) x (filter f xs),
      )

  picked_first : (x i : ℕ) (b : Bool) → x < tasks line → (b ≡ true → (i < tasks line) × (f i ≡ true))
      → ((nat_eq x i && f x) || b) ≡ true → (i < tasks line) × (f i ≡ true)
  picked_first x i b within rest e = elim (or_cases (nat_eq x i && f x) b e) [
    | inl h ↦ (
        let q : (nat_eq x i ≡ true) × (f x ≡ true) = and_parts (nat_eq x i) (f x) h in
        let same : x ≡ i = eqb-true x i q.0 in
        (omega (arith, same, within), ap f (sym same) ∙ q.1)
        )
    | inr h ↦ rest h
  ]

  picked_has : (xs : List ℕ) (i : ℕ) → picked f xs i ≡ true → ((k : ℕ) → k < length xs → get_or xs k 0 < tasks line)
      → (i < tasks line) × (f i ≡ true)
  picked_has [] i e within = absurd (false≢true e)
  picked_has (x ∷ xs) i e within = picked_first x i (picked f xs i) (within 0 (omega arith))
      (λ h. picked_has xs i h (λ k l. within (suc k) (omega (arith, l)))) e

  has_picked : (xs : List ℕ) (k : ℕ) → k < length xs → f (get_or xs k 0) ≡ true → picked f xs (get_or xs k 0) ≡ true
  has_picked [] k l e = absurd (omega arith)
  has_picked (x ∷ xs) zero l e = or_left (nat_eq x x && f x) (picked f xs x)
      (and_from (nat_eq x x) (f x) (eq-eqb x x refl) e)
  has_picked (x ∷ xs) (suc k) l e = or_right (nat_eq x (get_or xs k 0) && f x) (picked f xs (get_or xs k 0))
      (has_picked xs k (omega arith) e)

module _ (line : Line) (ok : IsLine line) (ranked : IsRanked line) where
  pub order_within : All (λ i. i < tasks line) line.order
  order_within = All-from_get_or (λ i. i < tasks line) line.order 0
      (λ k l. ranked.task k (omega (arith, l, ranked.many)))

  pub order_differs : AllPairs (λ x y. x ≢ y) line.order
  order_differs = λ i j d less within e.
      let same : at_rank line i ≡ at_rank line j = same_item line.order i 0 d (omega (arith, less, within)) ∙ e
      ∙ same_item line.order j d 0 within in
      omega (
        arith,
        less,
        ranked.once i j (omega (arith, less, within, ranked.many))
            (omega (arith, within, ranked.many)) same,
      )

  -- the tasks that pass, by rank, have the times of those that pass
  pub times_where : (f : ℕ → Bool) → times_of line (filter f line.order)
      ≡ sum_where (λ i. has (all_tasks line) i && f i) line.times
  times_where f = sym (weigh-picked line f line.order order_differs order_within)
      ∙ weigh-same (λ t. t) (picked f line.order) (λ i. has (all_tasks line) i && f i) same line.times
    where
      same : (i : ℕ) → picked f line.order i ≡ (has (all_tasks line) i && f i)
      same i = same_truth (picked f line.order i) (has (all_tasks line) i && f i)
          (λ e. let q = picked_has line f line.order i e (λ k l. ranked.task k (omega (arith, l, ranked.many))) in
          and_from (has (all_tasks line) i) (f i) (In-all line i ok.small q.0) q.1)
          (λ e. let q : (has (all_tasks line) i ≡ true) × (f i ≡ true) = and_parts (has (all_tasks line) i) (f i) e in
          let r = ranked.rank i (In-all_lt line i q.0) in
          let P : ℕ → Type 0 = λ t. picked f line.order t ≡ true in
          subst P r.2 (has_picked line f line.order r.0 (omega (arith, r.1, ranked.many)) (ap f r.2 ∙ q.1)))

  pub tasks_within : (places : List Seatplace) (side : Side) (k : ℕ)
      → All (λ i. i < tasks line) (tasks_at line places side k)
  tasks_within places side k = All-filter (λ i. stands side k (seat places i)) (λ i. i < tasks line) line.order
      order_within

  not_side : (s : Side) (a b : Bool) → (a && (is_side s Back && b)) ≡ ((a && b) && not (is_side s Front))
  not_side Front true true = refl
  not_side Front true false = refl
  not_side Front false b = refl
  not_side Back true true = refl
  not_side Back true false = refl
  not_side Back false b = refl

  is_front : (s : Side) (a b : Bool) → (a && (is_side s Front && b)) ≡ ((a && b) && is_side s Front)
  is_front Front true true = refl
  is_front Front true false = refl
  is_front Front false b = refl
  is_front Back true true = refl
  is_front Back true false = refl
  is_front Back false b = refl

  -- the times of both sides of a station are its sum
  pub both_sides : (places : List Seatplace) (k : ℕ) → times_of line (tasks_at line places Front k) + times_of line
      (tasks_at line places Back k) ≡ sum_at line places k
  both_sides places k =
      let all : ℕ → Bool = has (all_tasks line) in
      let at : ℕ → Bool = λ i. nat_eq (seat places i).station k in
      let front : ℕ → Bool = λ i. is_side (seat places i).side Front in
      omega (
        arith,
        times_where (λ i. stands Front k (seat places i)),
        times_where (λ i. stands Back k (seat places i)),
        weigh-split (λ t. t) (λ i. all i && at i) front line.times,
        weigh-same (λ t. t) (λ i. all i && (is_side (seat places i).side Front && at i))
            (λ i. (all i && at i) && front i) (λ i. is_front (seat places i).side (all i) (at i)) line.times,
        weigh-same (λ t. t) (λ i. all i && (is_side (seat places i).side Back && at i))
            (λ i. (all i && at i) && not (front i)) (λ i. not_side (seat places i).side (all i) (at i)) line.times,
      )

cond_joined : (b : Bool) (x : ℕ) (xs : List ℕ) → cond b (x ∷ xs) xs ≡ cond b (x ∷ []) [] ++ xs
cond_joined true x xs = refl
cond_joined false x xs = refl

-- one item more of a list that is filtered
pub filter_turn : (f : ℕ → Bool) (xs : List ℕ) (k x : ℕ) (found new whole : List ℕ) (wanted : Bool) → k < length xs
    → x ≡ get_or xs k 0 → wanted ≡ f x
    → new ≡ found ++ cond wanted (x ∷ []) [] → found ++ filter f (drop k xs) ≡ whole
    → new ++ filter f (drop (k + 1) xs) ≡ whole
filter_turn f xs k x found new whole wanted l is passes pushed so_far =
    let rest : List ℕ = filter f (drop (k + 1) xs) in
    let left : filter f (drop k xs) ≡ cond wanted (x ∷ []) [] ++ rest =
    ap (filter f) (drop_more xs k 0 l)
    ∙ ap (λ y. cond (f y) (y ∷ rest) rest) (sym is)
    ∙ cond_joined (f x) x rest
    ∙ ap (λ b. cond b (x ∷ []) [] ++ rest) (sym passes) in
    ap (λ t. t ++ rest) pushed ∙ append_assoc found (cond wanted (x ∷ []) []) rest ∙ ap (λ t. found ++ t) (sym left)
    ∙ so_far

-- nothing is left of a list that is gone over
pub all_found : (f : ℕ → Bool) (xs : List ℕ) (k : ℕ) (found whole : List ℕ) → length xs ≤ k
    → found ++ filter f (drop k xs) ≡ whole → found ≡ whole
all_found f xs k found whole l so_far = sym (ap (λ t. found ++ filter f t) (drop_all xs k l) ∙ append-nil found)
    ∙ so_far
  where
    drop_all : (ys : List ℕ) (m : ℕ) → length ys ≤ m → drop m ys ≡ []
    drop_all [] zero h = refl
    drop_all [] (suc m) h = refl
    drop_all (y ∷ ys) zero h = absurd (omega arith)
    drop_all (y ∷ ys) (suc m) h = drop_all ys m (omega (arith, h))

module _ (line : Line) (ok : IsLine line) (ranked : IsRanked line) (places : List Seatplace) (k c : ℕ)
    (fits : sum_at line places k ≤ c) where
  pub front_fits : times_of line (tasks_at line places Front k) ≤ c
  front_fits = omega (arith, both_sides line ok ranked places k, fits)

  pub back_fits : times_of line (tasks_at line places Back k) ≤ c
  back_fits = omega (arith, both_sides line ok ranked places k, fits)
