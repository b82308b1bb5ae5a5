-- Tasks that are no longer than the cycle have a balance with one task per station, in rank order, in as many stations
-- as there are of them.
use Rattle.std.proofs.Common.{◌≡◌, ℕ, zero, suc, ◌+◌, ◌<◌, ◌≤◌, true, false, Bool, cond, ◌&&◌, nat_eq, List, [], ◌∷◌}
use Rattle.std.proofs.Common.{length, get_or, set, replicate, refl, sym, ap, ◌∙◌, subst, ◌⊎◌, inl, inr, arith}
use Rattle.std.proofs.Math.ListN.{length-set}
use Rattle.std.proofs.lemmas.Bool.{cases_lt, cases_Bool, and_parts, eqb-true}
use Rattle.std.proofs.lemmas.List.{length-replicate}
use Rattle.line_instance.specs.Truths.{In, count}
use Rattle.line_instance.proofs.Counts.{count_first, same_members}
use Rattle.line_instance.proofs.Members.{In-set_same, In-set_kept, In-set_cases, In-empty}
use Rattle.line_instance.specs.Line.{Line, IsLine, IsRanked, IsTaskSet, tasks, time, has, at_rank, Before, Apart}
use Rattle.line_instance.specs.Sums.{sum_where}
use Rattle.line_rules.specs.Balance.{IsBalance, Keeps}
use Rattle.line_rules.specs.declared.types.LineKind.{LineKind}
use Rattle.line_rules.specs.declared.types.LineKind.TheVariants.{Straight, U}
use Rattle.line_rules.specs.declared.types.Side.TheVariants as side
use Rattle.line_rules.specs.declared.types.Seatplace.{Seatplace}
use Rattle.line_instance.proofs.Orders.{size, size-set, size-below}
use Rattle.line_instance.proofs.Sums.{weigh-none}
use Rattle.line_rules.proofs.BoundIsTrue.{cond_le}

cond_none : (b : Bool) (x : ℕ) → b ≡ false → cond b x 0 ≡ 0
cond_none true x e = absurd (cc)
cond_none false x e = refl

-- what picks one task at most sums to no more than what each picked one may have
one_picked : (X : ℕ) (p : ℕ → Bool) (ts : List ℕ) → ((i j : ℕ) → p i ≡ true → p j ≡ true → i ≡ j)
    → ((i : ℕ) → p i ≡ true → get_or ts i 0 ≤ X) → sum_where p ts ≤ X
one_picked X p [] once most = omega arith
one_picked X p (t ∷ ts) once most = elim (cases_Bool (p 0)) [
  | inl y ↦ (
      let others : (i : ℕ) → p (suc i) ≡ false = λ i. elim (cases_Bool (p (suc i)))
      [ inl z ↦ absurd (omega (arith, once 0 (suc i) y z)) | inr n ↦ n ] in
      omega (arith, cond_le (p 0) t X (most 0), weigh-none (λ z. z) (λ i. p (suc i)) others ts)
      )
  | inr n ↦ (
      let same : (i j : ℕ) → p (suc i) ≡ true → p (suc j) ≡ true
      → i ≡ j = λ i j u v. omega (arith, once (suc i) (suc j) u v) in
      omega (arith, cond_none (p 0) t n, one_picked X (λ i. p (suc i)) ts same (λ i u. most (suc i) u))
      )
]

-- a set of numbers below n has at most n members
size_count : (s : List Bool) → size s ≡ count s
unfolding size
size_count [] = refl
size_count (b ∷ bs) = omega (arith, count_first b bs, size_count bs)

pub count_below : (s : List Bool) (n : ℕ) → ((i : ℕ) → In s i → i < n) → count s ≤ n
count_below s n h = omega (arith, size-below s n h, size_count s)

count_set : (s : List Bool) (i : ℕ) → i < length s → get_or s i false ≡ false → count (set s i true) ≡ count s + 1
count_set s i l n = omega (arith, size-set s i l n, size_count s, size_count (set s i true))

-- the set with one task more where it is wanted
with_wanted : Bool → List Bool → ℕ → List Bool
with_wanted true s t = set s t true
with_wanted false s t = s

module _ (kind : LineKind) (line : Line) (ok : IsLine line) (ranked : IsRanked line) (X : ℕ) (R : List Bool)
    (all : IsTaskSet line R) (short : (i : ℕ) → In R i → time line i ≤ X) where
  rank_of : ℕ → ℕ
  rank_of i = elim (cases_lt i (tasks line)) [ inl l ↦ (ranked.rank i l).0 | inr g ↦ 0 ]

  rank_is : (i : ℕ) → i < tasks line → (rank_of i < tasks line) × (at_rank line (rank_of i) ≡ i)
  unfolding rank_of
  rank_is i less = elim (cases_lt i (tasks line)) as (λ (d : (i < tasks line) ⊎ (tasks line ≤ i)). let r : ℕ =
      elim d [ inl l ↦ (ranked.rank i l).0 | inr g ↦ 0 ] in (r < tasks line) × (at_rank line r ≡ i)) [
        | inl l ↦ ((ranked.rank i l).1, (ranked.rank i l).2)
        | inr g ↦ absurd (omega (arith, less, g))
      ]

  -- the tasks of R at the ranks below k
  below : ℕ → List Bool
  below zero = replicate 1024 false
  below (suc k) = with_wanted (has R (at_rank line k)) (below k) (at_rank line k)

  -- a task of the set is one of R, at a rank below k
  record IsBelow (k : ℕ) (s : List Bool) : Type 0 where
    truths : length s ≡ 1024
    wanted : (i : ℕ) → In s i → In R i
    ranks : (i : ℕ) → In s i → (m : ℕ) × (m < k) × (at_rank line m ≡ i)
    holds : (m : ℕ) → m < k → In R (at_rank line m) → In s (at_rank line m)

  next_below : (k : ℕ) (s : List Bool) (t : ℕ) (b : Bool) → t ≡ at_rank line k → b ≡ has R t → t < 1024 → IsBelow k s
      → IsBelow (suc k) (with_wanted b s t)
  unfolding with_wanted
  next_below k s t true e w small h = record {
    truths = length-set s t true ∙ h.truths;
    wanted = λ i m. elim (In-set_cases s t i m) [
      | inl old ↦ h.wanted i old
      | inr new ↦
          (let P : ℕ → Type 0 = In R in subst P (sym new) (sym w))
    ];
    ranks = λ i m. elim (In-set_cases s t i m) [
      | inl old ↦ (let r : (m : ℕ) × (m < k) × (at_rank line m ≡ i) = h.ranks i old in (r.0, omega (arith, r.1), r.2))
      | inr new ↦ (k, omega arith, sym e ∙ sym new)
    ];
    holds = λ m l r. elim (cases_lt m k) [
      | inl less ↦ In-set_kept s t (at_rank line m) (h.holds m less r)
      | inr most ↦ (
          let last : m ≡ k = omega (arith, l, most) in
          let P : ℕ → Type 0 = λ z. In (set s t true) z in
          subst P (e ∙ ap (λ (z : ℕ). at_rank line z) (sym last)) (In-set_same s t (omega (arith, small, h.truths)))
          )
    ];
  }
  next_below k s t false e w small h = record {
    truths = h.truths;
    wanted = h.wanted;
    ranks = λ i m. let r : (m : ℕ) × (m < k) × (at_rank line m ≡ i) = h.ranks i m in (r.0, omega (arith, r.1), r.2);
    holds = λ m l r. elim (cases_lt m k) [
      | inl less ↦ h.holds m less r
      | inr most ↦ (
          let last : m ≡ k = omega (arith, l, most) in
          let P : ℕ → Type 0 = λ z. has R z ≡ true in
          let q : has R t ≡ true = subst P (ap (λ (z : ℕ). at_rank line z) last ∙ sym e) r in
          absurd (cc)
          )
    ];
  }

  rank_small : (k : ℕ) → k < tasks line → at_rank line k < 1024
  rank_small k l = omega (arith, ranked.task k l, ok.small)

  below_is : (k : ℕ) → k ≤ tasks line → IsBelow k (below k)
  unfolding below
  below_is zero l = record {
    truths = length-replicate 1024 false;
    wanted = λ i m. absurd (In-empty 1024 i m);
    ranks = λ i m. absurd (In-empty 1024 i m);
    holds = λ m h. absurd (omega (arith, h));
  }
  below_is (suc k) l = next_below k (below k) (at_rank line k) (has R (at_rank line k)) refl refl
      (rank_small k (omega (arith, l))) (below_is k (omega (arith, l)))

  -- a rank more adds its task, where that is one of R
  counts_more : (k : ℕ) → k < tasks line → In R (at_rank line k) → count (below (suc k)) ≡ count (below k) + 1
  unfolding below with_wanted
  counts_more k l r =
      let t : ℕ = at_rank line k in
      let h : IsBelow k (below k) = below_is k (omega (arith, l)) in
      let new : get_or (below k) t false ≡ false = elim (cases_Bool (get_or (below k) t false)) [
        | inl y ↦ (let q : (m : ℕ) × (m < k) × (at_rank line m ≡ t) = h.ranks t y in
            absurd (omega (arith, q.1, ranked.once q.0 k (omega (arith, q.1, l)) l q.2)))
        | inr n ↦ n
      ] in
      let P : Bool → Type 0 = λ b. count (with_wanted b (below k) t) ≡ count (below k) + 1 in
      subst P (sym r) (count_set (below k) t (omega (arith, rank_small k l, h.truths)) new)

  counts_grow : (k : ℕ) → k < tasks line → count (below k) ≤ count (below (suc k))
  unfolding below with_wanted
  counts_grow k l = elim (cases_Bool (has R (at_rank line k))) [
    | inl y ↦ omega (arith, counts_more k l y)
    | inr n ↦ (
        let P : Bool → Type 0 = λ b. count (below k) ≤ count (with_wanted b (below k) (at_rank line k)) in
        let q : count (below k) ≤ count (below k) = omega arith in
        subst P (sym n) q
        )
  ]

  grows : (k m : ℕ) → k ≤ m → m ≤ tasks line → count (below k) ≤ count (below m)
  grows k zero h l = let e : k ≡ 0 = omega (arith, h) in let P : ℕ → Type 0 = λ z. count (below k) ≤ count (below z) in
      subst P e (omega arith)
  grows k (suc m) h l = elim (cases_lt k (suc m)) [
    | inl less ↦ omega (arith, grows k m (omega (arith, less)) (omega (arith, l)), counts_grow m (omega (arith, l)))
    | inr most ↦ (let e : k ≡ suc m = omega (arith, h, most) in let P : ℕ
        → Type 0 = λ z. count (below k) ≤ count (below z) in subst P e (omega arith))
  ]

  -- fewer tasks of R stand below a task of R than below one of a higher rank
  rises : (k m : ℕ) → k < m → m ≤ tasks line → In R (at_rank line k) → count (below k) < count (below m)
  rises k m h l r = omega (arith, counts_more k (omega (arith, h, l)) r, grows (suc k) m (omega (arith, h)) l)

  all_below : below (tasks line) ≡ R
  all_below =
      let h : IsBelow (tasks line) (below (tasks line)) = below_is (tasks line) (omega arith) in
      same_members (below (tasks line)) R h.truths all.truths (λ i. (
        λ m. h.wanted i m,
        λ m. let r : (rank_of i < tasks line) × (at_rank line (rank_of i) ≡ i) = rank_is i (all.tasks i m) in
            subst (λ (z : ℕ). In (below (tasks line)) z) r.1
            (h.holds (rank_of i) r.0 (subst (λ (z : ℕ). In R z) (sym r.1) m)),
      ))

  -- the station of a task: one more than the tasks of R at lower ranks
  seat : ℕ → Seatplace
  seat i = record { station = count (below (rank_of i)) + 1; side = side.Front }

  at_least : (i : ℕ) → 1 ≤ (seat i).station
  unfolding seat
  at_least i = omega arith

  ranked_in : (i : ℕ) → In R i → In R (at_rank line (rank_of i))
  ranked_in i m = subst (λ (z : ℕ). In R z) (sym (rank_is i (all.tasks i m)).1) m

  lower : (i j : ℕ) → In R i → In R j → rank_of i < rank_of j → count (below (rank_of i)) < count (below (rank_of j))
  lower i j m n h = rises (rank_of i) (rank_of j) h (omega (arith, (rank_is j (all.tasks j n)).0)) (ranked_in i m)

  earlier : (i j : ℕ) → In R i → In R j → Before line i j → count (below (rank_of i)) < count (below (rank_of j))
  earlier i j m n b =
      let p : (rank_of i < tasks line) × (at_rank line (rank_of i) ≡ i) = rank_is i (all.tasks i m) in
      let q : (rank_of j < tasks line) × (at_rank line (rank_of j) ≡ j) = rank_is j (all.tasks j n) in
      let P : ℕ → Type 0 = λ z. Before line z j in
      let Q : ℕ → Type 0 = λ z. Before line (at_rank line (rank_of i)) z in
      lower i j m n (ranked.rises (rank_of i) (rank_of j) p.0 q.0 (subst Q (sym q.1) (subst P (sym p.1) b)))

  keeps : (kind : LineKind) (i j : ℕ) → In R i → In R j → Before line i j → Keeps kind (seat i) (seat j)
  unfolding seat
  keeps Straight i j m n b = omega (arith, earlier i j m n b)
  keeps U i j m n b = record { front = λ e. (refl, omega (arith, earlier i j m n b)); back = λ e. absurd (cc) }

  same_task : (i j : ℕ) → In R i → In R j → rank_of i ≡ rank_of j → i ≡ j
  same_task i j m n e = sym (rank_is i (all.tasks i m)).1 ∙ (ap (λ (z : ℕ). at_rank line z) e
      ∙ (rank_is j (all.tasks j n)).1)

  -- no station has two tasks
  alone : (i j : ℕ) → In R i → In R j → (seat i).station ≡ (seat j).station → i ≡ j
  unfolding seat
  alone i j m n e = elim (cases_lt (rank_of i) (rank_of j)) [
    | inl less ↦ absurd (omega (arith, e, lower i j m n less))
    | inr most ↦ elim (cases_lt (rank_of j) (rank_of i)) [
      | inl more ↦ absurd (omega (arith, e, lower j i n m more))
      | inr same ↦ same_task i j m n (omega (arith, most, same))
    ]
  ]

  at_station : (s : ℕ) → sum_where (λ i. has R i && nat_eq (seat i).station s) line.times ≤ X
  at_station s =
      let at : (i : ℕ) → (has R i && nat_eq (seat i).station s) ≡ true → In R i × ((seat i).station ≡ s) =
      λ i e. let q : In R i × (nat_eq (seat i).station s ≡ true) = and_parts (has R i) (nat_eq (seat i).station s) e in
      (q.0, eqb-true (seat i).station s q.1) in
      one_picked X (λ i. has R i && nat_eq (seat i).station s) line.times
      (λ i j p q. alone i j (at i p).0 (at j q).0 ((at i p).1 ∙ sym (at j q).1)) (λ i p. short i (at i p).0)

  within : (i : ℕ) → In R i → (seat i).station ≤ count R
  unfolding seat
  within i m =
      let r : (rank_of i < tasks line) × (at_rank line (rank_of i) ≡ i) = rank_is i (all.tasks i m) in
      omega (
        arith,
        rises (rank_of i) (tasks line) r.0 (omega arith) (ranked_in i m),
        ap (λ (s : List Bool). count s) all_below,
      )

  spread : IsBalance kind line X R (count R) seat
  spread = record {
    first = λ i m. at_least i;
    last = within;
    keeps = keeps kind;
    parted = λ i j m n a e. let P : ℕ → Type 0 = λ z. Apart line i z in ok.of_two i (subst P (sym (alone i j m n e)) a);
    fits = at_station;
  }

  pub each_alone : (place : ℕ → Seatplace) × IsBalance kind line X R (count R) place
      × ((i j : ℕ) → In R i → In R j → (place i).station ≡ (place j).station → i ≡ j)
  each_alone = (seat, spread, alone)
