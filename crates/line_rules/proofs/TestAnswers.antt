-- From the answers of the tests to the answer of the whole.
use Rattle.std.proofs.Common.{◌≡◌, ℕ, ◌<◌, ◌≤◌, true, ◌&&◌, nat_eq, List, length, get_or, sym, subst, inl, inr, arith}
use Rattle.std.proofs.lemmas.Bool.{cases_lt, cases_eq, cases_Bool, and_parts}
use Rattle.std.proofs.lemmas.Bool.Decides.{nat_tests}
use Rattle.line_instance.specs.Truths.{In}
use Rattle.line_instance.specs.Line.{Line, IsLine, Apart, tasks, has}
use Rattle.line_instance.proofs.Sums.{weigh-none}
use Rattle.line_rules.specs.Balance.{IsRight, IsSide, all_tasks, seat, time_at}
use Rattle.line_rules.specs.Checked.{IsLeastWhere, Meets, HasStations, HasSides, HasRoom, KeepsAll}
use Rattle.line_rules.specs.declared.types.LineKind.{LineKind}
use Rattle.line_rules.specs.declared.types.Balance.{Balance as Assignment}
use Rattle.line_rules.proofs.All.{In-all, In-all_lt}

-- a least number of one kind is a least number of another that it is like
pub least_alike : (P Q : ℕ → Type 0) → ((i : ℕ) → P i → Q i) → ((i : ℕ) → Q i → P i) → (i : ℕ) → IsLeastWhere P i
    → IsLeastWhere Q i
least_alike P Q to from i h = record { passes = to i h.passes; least = λ j l q. h.least j l (from j q) }

module _ (line : Line) (b : Assignment) (is : IsLine line) where
  pub stations_all : ((i : ℕ) → i < tasks line → (1 ≤ (seat b.place i).station)
      × ((seat b.place i).station ≤ b.stations)) → HasStations line b
  stations_all h i m = h i (In-all_lt line i m)

  pub stations_few : b.stations ≤ 1024 → HasStations line b → (i : ℕ) → i < tasks line → (seat b.place i).station ≤ 1024
  stations_few f h i l = omega (arith, (h i (In-all line i is.small l)).1)

  pub sides_all : (kind : LineKind) → ((i : ℕ) → i < tasks line → IsSide kind (seat b.place i).side)
      → HasSides kind line b
  sides_all kind h i m = h i (In-all_lt line i m)

  pub least_off : (P : ℕ → Type 0) (i : ℕ) → IsLeastWhere (λ j. (j < tasks line) × P j) i
      → IsLeastWhere (λ j. In (all_tasks line) j × P j) i
  least_off P i h = least_alike (λ j. (j < tasks line) × P j) (λ j. In (all_tasks line) j × P j)
      (λ j p. (In-all line j is.small p.0, p.1)) (λ j p. (In-all_lt line j p.0, p.1)) i h

  -- past the last station no task stands
  none_past : (s : ℕ) → b.stations ≤ 1024 → HasStations line b → 1025 ≤ s
      → time_at line (all_tasks line) (seat b.place) s ≡ 0
  none_past s f h g = weigh-none (λ t. t) (λ i. has (all_tasks line) i && nat_eq (seat b.place i).station s)
      (λ i. elim (cases_Bool (has (all_tasks line) i && nat_eq (seat b.place i).station s)) [
        | inl y ↦ (let q : (has (all_tasks line) i ≡ true) × (nat_eq (seat b.place i).station s ≡ true) =
            and_parts (has (all_tasks line) i) (nat_eq (seat b.place i).station s) y in
            let e : (seat b.place i).station ≡ s = grind (arith, nat_tests, q.1) in
            absurd (omega (arith, e, (h i q.0).1)))
        | inr n ↦ n
      ]) line.times

  pub room_all : (c : ℕ) → b.stations ≤ 1024 → HasStations line b
      → ((s : ℕ) → s < 1025 → time_at line (all_tasks line) (seat b.place) s ≤ c) → HasRoom line c b
  room_all c f h r s = elim (cases_lt s 1025) [
    | inl l ↦ r s l
    | inr g ↦ omega (arith, none_past s f h g)
  ]

  -- no two that are apart meet, whichever is the lesser
  pub parted_all : ((i j : ℕ) → Meets line b i j → ⊥) → (i j : ℕ) → In (all_tasks line) i → In (all_tasks line) j
      → Apart line i j → (seat b.place i).station ≡ (seat b.place j).station → ⊥
  parted_all none i j mi mj a e = elim (cases_lt i j) [
    | inl l ↦ none i j (record { second = mj; rises = l; apart = a; together = e })
    | inr g ↦ elim (cases_eq i j) [
      | inl q ↦ (let P : ℕ → Type 0 = λ k. Apart line i k in is.of_two i (subst P (sym q) a))
      | inr d ↦ none j i (record { second = mi; rises = omega arith; apart = is.both_ways i j a; together = sym e })
    ]
  ]

  pub right : (kind : LineKind) (c : ℕ) → length b.place ≡ tasks line → HasStations line b → HasSides kind line b
      → HasRoom line c b → KeepsAll kind line b → ((i j : ℕ) → Meets line b i j → ⊥) → IsRight kind line c b
  right kind c each stations sides room keeps apart = record {
    each = each;
    sides = sides;
    balance = record {
      first = λ i m. (stations i m).0;
      last = λ i m. (stations i m).1;
      keeps = keeps;
      parted = parted_all apart;
      fits = room;
    };
  }

  -- the least station of the kept times that is over the cycle is the least of all
  pub least_over : (times : List ℕ) (c s : ℕ) → length times ≡ 1025
      → ((k : ℕ) → k < 1025 → get_or times k 0 ≡ time_at line (all_tasks line) (seat b.place) k)
      → IsLeastWhere (λ k. (k < length times) × (c < get_or times k 0)) s
      → IsLeastWhere (λ k. c < time_at line (all_tasks line) (seat b.place) k) s
  least_over times c s long at h = record {
    passes = omega (arith, h.passes.1, at s (omega (arith, long, h.passes.0)));
    least = λ k l over. h.least k l (
      omega (arith, long, l, h.passes.0),
      omega (arith, over, at k (omega (arith, long, l, h.passes.0))),
    );
  }
