-- Costs of sequences: step by step, from later starts, and at least the bound.
use Rattle.std.proofs.Common.{◌≡◌, ℕ, zero, suc, ◌+◌, ◌-◌, ◌*◌, ◌<◌, ◌≤◌, true, false, cond, nat_eq, List, [], ◌∷◌}
use Rattle.std.proofs.Common.{length, get_or, refl, sym, ap, ◌∙◌, subst, inl, inr, arith, sum}
use Rattle.std.specs.Prelude.{count_by}
use Rattle.std.specs.List.{AllZip}
use Rattle.std.proofs.lemmas.Bool.{cases_eq, eq-eqb}
use Rattle.std.proofs.lemmas.Bool.Decides.{nat_tests}
use Rattle.std.proofs.lemmas.List.{get_or-set_same, get_or-set_other}
use Rattle.std.proofs.lemmas.List.Sums.{sum_by-cons}
use Rattle.utility_work.specs.Utility.{utility_of, next_start, utility_from}
use Rattle.sequence_values.specs.declared.types.Times.{Times}
use Rattle.sequence_rules.specs.States.{sum_over, unit_work, step_cost, next_starts, less_one, work_left, state_bound}
use Rattle.sequence_rules.specs.States.{IsSequenceOf, cost, Holds}
use Rattle.sequence_rules.proofs.SumFacts.{sum_le, sum_grows, sum_plus, sum_each, sum_noughts}

-- a sequence costs what its first step costs and what the rest costs from the next starts on
pub cost_steps : (t : Times) (interval reach : ℕ) (starts : List ℕ) (model : ℕ) (units : List ℕ)
    → cost t interval reach starts (model ∷ units) ≡ step_cost t reach model starts + cost t interval reach
    (next_starts t interval reach model starts) units
cost_steps t interval reach starts model units =
    let f : ℕ → ℕ → ℕ = λ k s. utility_of s (unit_work t model k) reach in
    let g : ℕ → ℕ → ℕ = λ k s. utility_from reach interval (λ m. unit_work t m k) s units in
    let next : ℕ → ℕ → ℕ = λ k s. next_start s (unit_work t model k) reach interval in
    sum_plus f (λ k s. g k (next k s)) starts ∙ ap (λ n. sum_over f starts + n) (sym (sum_each g next starts))

-- a later start costs no less at a station
later_costs : (reach interval : ℕ) (work : ℕ → ℕ) (a b : ℕ) (units : List ℕ) → a ≤ b
    → utility_from reach interval work a units ≤ utility_from reach interval work b units
later_costs reach interval work a b [] h = omega arith
later_costs reach interval work a b (m ∷ units) h =
    omega (
      arith,
      h,
      later_costs reach interval work (next_start a (work m) reach interval)
          (next_start b (work m) reach interval) units (omega (arith, h)),
    )

pub later_starts : (t : Times) (interval reach : ℕ) (starts later units : List ℕ) → AllZip (λ a b. a ≤ b) starts later
    → cost t interval reach starts units ≤ cost t interval reach later units
later_starts t interval reach starts later units h =
    sum_grows (λ k s. utility_from reach interval (λ m. unit_work t m k) s units) starts later
    (λ k a b l. later_costs reach interval (λ m. unit_work t m k) a b units l) h

-- the sum of a weight over units
abbrev weight_of : (ℕ → ℕ) → List ℕ → ℕ
weight_of g [] = 0
weight_of g (m ∷ units) = g m + weight_of g units

-- the bound of a station, of units that are known
station_bound : (reach interval : ℕ) (work : ℕ → ℕ) (s m : ℕ) (units : List ℕ)
    → s + (work m + weight_of work units) - reach - length units * interval
    ≤ utility_from reach interval work s (m ∷ units)
station_bound reach interval work s m [] = omega arith
station_bound reach interval work s m (n ∷ units) =
    omega (arith, station_bound reach interval work (next_start s (work m) reach interval) n units)

-- a model of which a unit stands in the sequence is left, and so is a place of the list
pub first_is_left : (rem : List ℕ) (m : ℕ) (units : List ℕ) → IsSequenceOf rem (m ∷ units) → 0 < get_or rem m 0
first_is_left rem m units h =
    let same : ◌≡◌ {A = ℕ} (cond (nat_eq m m) 1 0) 1 = ap (λ b. cond b 1 0) (eq-eqb m m refl) in
    omega (arith, h m, sum_by-cons (λ u. cond (nat_eq u m) 1 0) m units, same)

pub left_within : (rem : List ℕ) (m : ℕ) → 0 < get_or rem m 0 → m < length rem
left_within [] m h = absurd (omega (arith, h))
left_within (x ∷ rem) zero h = omega arith
left_within (x ∷ rem) (suc m) h = omega (arith, left_within rem m h)

-- the rest of a sequence is one of what is left after its first unit
pub rest_is_sequence : (rem : List ℕ) (m : ℕ) (units : List ℕ) → IsSequenceOf rem (m ∷ units)
    → IsSequenceOf (less_one rem m) units
rest_is_sequence rem m units h k = elim (cases_eq k m) [
  | inl e ↦
      let P : ℕ → Type 0 = λ j. count_by (λ u. nat_eq u j) units ≡ get_or (less_one rem m) j 0 in
      let same : ◌≡◌ {A = ℕ} (cond (nat_eq m m) 1 0) 1 = ap (λ b. cond b 1 0) (eq-eqb m m refl) in
      subst P (sym e) (omega (
        arith,
        h m,
        sum_by-cons (λ u. cond (nat_eq u m) 1 0) m units,
        same,
        get_or-set_same rem m (get_or rem m 0 - 1) 0 (left_within rem m (first_is_left rem m units h)),
      ))
  | inr n ↦
      let other : ◌≡◌ {A = ℕ} (cond (nat_eq m k) 1 0) 0 = grind (arith, nat_tests) in
      omega (
        arith,
        h k,
        sum_by-cons (λ u. cond (nat_eq u k) 1 0) m units,
        other,
        get_or-set_other rem m k (get_or rem m 0 - 1) 0 n,
      )
]

-- what is left, weighed, after a unit of a model
weight_less : (g : ℕ → ℕ) (rem : List ℕ) (m : ℕ) → 0 < get_or rem m 0
    → sum_over (λ k n. n * g k) rem ≡ g m + sum_over (λ k n. n * g k) (less_one rem m)
weight_less g [] m h = absurd (omega (arith, h))
weight_less g (x ∷ rem) zero h =
    let split : x * g 0 ≡ g 0 + (x - 1) * g 0 = omega (arith, ap (λ n. n * g 0) (parts x h)) in
    omega (arith, split)
  where
    parts : (x : ℕ) → 0 < x → x ≡ 1 + (x - 1)
    parts x h = omega (arith, h)
weight_less g (x ∷ rem) (suc m) h = omega (arith, weight_less (λ k. g (suc k)) rem m h)

-- the units of a sequence weigh what is left
pub weighs : (g : ℕ → ℕ) (rem units : List ℕ) → IsSequenceOf rem units
    → weight_of g units ≡ sum_over (λ k n. n * g k) rem
weighs g rem [] h = sym (sum_noughts (λ k n. n * g k) rem (λ k. omega arith) (λ k. sym (h k)))
weighs g rem (m ∷ units) h = omega (
  arith,
  weight_less g rem m (first_is_left rem m units h),
  weighs g (less_one rem m) units (rest_is_sequence rem m units h),
)

-- there are as many units as are left
ones : (units : List ℕ) → weight_of (λ m. 1) units ≡ length units
ones [] = refl
ones (m ∷ units) = omega (arith, ones units)

all_ones : (rem : List ℕ) → sum_over (λ k n. n * 1) rem ≡ sum rem
all_ones [] = refl
all_ones (x ∷ rem) = omega (arith, sum_by-cons (λ n. n) x rem, all_ones rem)

pub as_many_left : (rem units : List ℕ) → IsSequenceOf rem units → length units ≡ sum rem
as_many_left rem units h = sym (ones units) ∙ weighs (λ m. 1) rem units h ∙ all_ones rem

-- every sequence from a state costs at least the bound of the state
pub bound_holds : (t : Times) (interval reach : ℕ) (rem starts : List ℕ)
    → Holds t interval reach rem starts (state_bound t interval reach rem starts)
bound_holds t interval reach rem starts [] h =
    let none : nat_eq (sum rem) 0 ≡ true = eq-eqb (sum rem) 0 (sym (as_many_left rem [] h)) in
    omega (
      arith,
      ap (λ b. cond b 0 (sum_over (λ k s. s + work_left t rem k - reach - (sum rem - 1) * interval) starts))
          none,
    )
bound_holds t interval reach rem starts (m ∷ units) h =
    let many : length units + 1 ≡ sum rem = omega (arith, as_many_left rem (m ∷ units) h) in
    let some : nat_eq (sum rem) 0 ≡ false = grind (arith, nat_tests) in
    let here : (k s : ℕ) → s + work_left t rem k - reach - (sum rem - 1) * interval
    ≤ utility_from reach interval (λ n. unit_work t n k) s (m ∷ units) = λ k s.
    let P : ℕ → Type 0 = λ n. s + work_left t rem k - reach - n * interval
    ≤ utility_from reach interval (λ n. unit_work t n k) s (m ∷ units) in
    let left : length units ≡ sum rem - 1 = omega (arith, many) in
    subst P left (omega (
      arith,
      station_bound reach interval (λ n. unit_work t n k) s m units,
      weighs (λ n. unit_work t n k) rem (m ∷ units) h,
    )) in
    omega (
      arith,
      ap (λ b. cond b 0 (sum_over (λ k s. s + work_left t rem k - reach - (sum rem - 1) * interval) starts)) some,
      sum_le (λ k s. s + work_left t rem k - reach - (sum rem - 1) * interval)
          (λ k s. utility_from reach interval (λ n. unit_work t n k) s (m ∷ units)) starts here,
    )
