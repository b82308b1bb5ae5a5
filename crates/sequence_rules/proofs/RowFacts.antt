-- Charged costs of rows: unit by unit, from later starts, and of the units that are left.
use Rattle.std.proofs.Common.{◌≡◌, ℕ, zero, suc, ◌+◌, ◌-◌, ◌*◌, ◌<◌, ◌≤◌, List, [], ◌∷◌, length, take, get_or, refl}
use Rattle.std.proofs.Common.{◌∙◌, inl, inr, arith, sum}
use Rattle.std.specs.Prelude.{sum_by, All}
use Rattle.std.specs.List.{AllZip}
use Rattle.std.proofs.lemmas.Bool.{cases_lt}
use Rattle.std.proofs.lemmas.List.{length-set, get_or_past}
use Rattle.std.proofs.lemmas.List.Sums.{sum_by-cons, sum_by-take-le}
use Rattle.std.proofs.Math.Nat.{mul-le-mul_left}
use Rattle.sequence_values.specs.declared.types.Times.{Times}
use Rattle.utility_work.specs.Utility.{utility_of}
use Rattle.sequence_rules.specs.Ranges.{AreTimes, AreLight}
use Rattle.sequence_rules.specs.States.{sum_over, unit_work, step_cost, next_starts, less_one, IsSequenceOf}
use Rattle.sequence_rules.proofs.CostFacts.{cost_steps, later_starts, first_is_left, left_within, rest_is_sequence}
use Rattle.sequence_rules.proofs.CostFacts.{weighs}
use Rattle.sequence_rules.proofs.SumFacts.{sum_more}
use Rattle.sequence_rules.specs.Charges.{charge_of, AreCharges, charged_cost, unit_cost, charges_left}

-- a row costs what its first unit costs and what the rest costs from where that unit leads
pub charged_steps : (t : Times) (interval reach : ℕ) (charges starts : List ℕ) (model : ℕ) (row : List ℕ)
    → charged_cost t interval reach charges starts (model ∷ row) ≡ unit_cost t reach charges starts model
    + charged_cost t interval reach charges (next_starts t interval reach model starts) row
charged_steps t interval reach charges starts model row = omega (
  arith,
  cost_steps t interval reach starts model row,
  sum_by-cons (λ m. charge_of charges m) model row,
)

-- from later starts no row has a lower charged cost
pub later_charged : (t : Times) (interval reach : ℕ) (charges starts later row : List ℕ)
    → AllZip (λ a b. a ≤ b) starts later
    → charged_cost t interval reach charges starts row ≤ charged_cost t interval reach charges later row
later_charged t interval reach charges starts later row h =
    omega (arith, later_starts t interval reach starts later row h)

-- the units of a sequence are of models of which some are left
pub models_within : (rem units : List ℕ) (n : ℕ) → length rem ≤ n → IsSequenceOf rem units → All (λ m. m < n) units
models_within rem [] n l s k d h = absurd (omega (arith, h))
models_within rem (m ∷ units) n l s zero d h = omega (arith, left_within rem m (first_is_left rem m units s), l)
models_within rem (m ∷ units) n l s (suc k) d h =
    models_within (less_one rem m) units n
    (omega (arith, l, length-set rem m (get_or rem m 0 - 1)))
    (rest_is_sequence rem m units s) k d (omega (arith, h))

-- the sum of a weight over units
abbrev weight : (ℕ → ℕ) → List ℕ → ℕ
weight g [] = 0
weight g (m ∷ units) = g m + weight g units

weight_is : (g : ℕ → ℕ) (units : List ℕ) → sum_by g units ≡ weight g units
weight_is g [] = refl
weight_is g (m ∷ units) = omega (arith, sum_by-cons g m units, weight_is g units)

-- the charges of a sequence are those of the units that are left
pub owed : (charges rem units : List ℕ) → IsSequenceOf rem units
    → sum_by (λ m. charge_of charges m) units ≡ charges_left charges rem
owed charges rem units s = weight_is (λ m. charge_of charges m) units ∙ weighs (λ m. charge_of charges m) rem units s

-- an item of a list of numbers that are at most so much, and 0 past its end
most_of : (most : ℕ) (xs : List ℕ) (k : ℕ) → All (λ x. x ≤ most) xs → get_or xs k 0 ≤ most
most_of most xs k h = elim (cases_lt k (length xs)) [
  | inl l ↦ h k 0 l
  | inr past ↦ omega (arith, get_or_past xs k 0 past)
]

-- a sum over places that have at most so much each
sum_most : (f : ℕ → ℕ → ℕ) (most : ℕ) (xs : List ℕ)
    → ((k : ℕ) → k < length xs → f k (get_or xs k 0) ≤ most) → sum_over f xs ≤ most * length xs
sum_most f most [] h = omega arith
sum_most f most (x ∷ xs) h = omega (
  arith,
  h 0 (omega arith),
  sum_most (λ k. f (suc k)) most xs (λ k l. h (suc k) (omega (arith, l))),
)

-- where no work is above 10^10, a unit that is begun within its stations costs at most 740,000,000,000,000
pub unit_light : (t : Times) (reach : ℕ) (charges starts : List ℕ) (model : ℕ) → AreTimes t → AreLight t
    → AreCharges t charges → length starts ≡ t.stations → All (λ s. s ≤ reach) starts
    → unit_cost t reach charges starts model ≤ 740000000000000
unit_light t reach charges starts model times light a wide begun =
    let steps : step_cost t reach model starts ≤ 10000000000 * length starts =
    sum_most (λ k s. utility_of s (unit_work t model k) reach) 10000000000 starts
    (λ k l. omega (arith, begun k 0 l, most_of 10000000000 t.work (model * t.stations + k) light)) in
    omega (arith, steps, wide, times.few, most_of 100000000000000 charges model a.limit)

-- a sum of products in which one factor is at most 10^14
products_most : (g : ℕ → ℕ) (xs : List ℕ) → ((k : ℕ) → g k ≤ 100000000000000)
    → sum_over (λ k n. n * g k) xs ≤ 100000000000000 * sum xs
products_most g [] h = omega arith
products_most g (x ∷ xs) h = omega (
  arith,
  mul-le-mul_left x (h 0),
  sum_by-cons (λ n. n) x xs,
  products_most (λ k. g (suc k)) xs (λ k. h (suc k)),
)

-- the charges of the first models, with one model more, stay below 10^14 for each of 16,000 units
pub owed_more : (charges rem : List ℕ) (m : ℕ) → m < length rem → All (λ a. a ≤ 100000000000000) charges
    → sum rem ≤ 16000
    → (charges_left charges (take (m + 1) rem)
    ≡ charges_left charges (take m rem) + get_or rem m 0 * charge_of charges m)
    × (charges_left charges (take (m + 1) rem) ≤ 1600000000000000000)
owed_more charges rem m l a few = (
  sum_more (λ k n. n * charge_of charges k) rem m l,
  omega (
    arith,
    products_most (λ k. charge_of charges k) (take (m + 1) rem)
        (λ k. most_of 100000000000000 charges k a),
    sum_by-take-le (λ n. n) rem (m + 1),
    few,
  ),
)
