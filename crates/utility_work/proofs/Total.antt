-- All stations together have no more utility work than the units have work.
use Rattle.std.proofs.Common.{◌≡◌, ◌≤◌, ◌<◌, ◌+◌, ◌*◌, ℕ, zero, suc, Bool, true, false, List, [], ◌∷◌, length, map}
use Rattle.std.proofs.Common.{get_or, cond, nat_eq, refl, arith}
use Rattle.std.specs.Prelude.{unwrap_or, sum, All}
use Rattle.std.proofs.lemmas.Bool.Decides.{nat_tests}
use Rattle.std.proofs.lemmas.List.Sums.{sum_by-cons}
use Rattle.line_instance.specs.Sums.{sum_where}
use Rattle.line_rules.specs.Balance.{seat}
use Rattle.line_rules.specs.declared.types.Seatplace.{Seatplace}
use Rattle.combined_graph.specs.Mixes.{LineModel, MixedLine, IsMix, IsModel, model_at}
use Rattle.utility_work.specs.Utility.{work_at, next_start, utility_from, station_utility}
use Rattle.utility_work.proofs.WorkSteps.{time_is, as_many}

-- the sum of f over the numbers below n
abbrev pub all : (ℕ → ℕ) → ℕ → ℕ
all f zero = 0
all f (suc n) = f 0 + all (λ k. f (suc k)) n

all_plus : (f g : ℕ → ℕ) (n : ℕ) → all (λ k. f k + g k) n ≡ all f n + all g n
all_plus f g zero = refl
all_plus f g (suc n) = omega (arith, all_plus (λ k. f (suc k)) (λ k. g (suc k)) n)

all_none : (f : ℕ → ℕ) (n : ℕ) → ((k : ℕ) → f k ≡ 0) → all f n ≡ 0
all_none f zero h = refl
all_none f (suc n) h = omega (arith, h 0, all_none (λ k. f (suc k)) n (λ k. h (suc k)))

sum_below : (xs : List ℕ) (f : ℕ → ℕ) → ((k : ℕ) → k < length xs → get_or xs k 0 ≤ f k) → sum xs ≤ all f (length xs)
sum_below [] f h = omega arith
sum_below (x ∷ xs) f h = omega (
  arith,
  sum_by-cons (λ x. x) x xs,
  h 0 (omega arith),
  sum_below xs (λ k. f (suc k)) (λ k g. h (suc k) (omega (arith, g))),
)

sum_limit : (xs : List ℕ) (most : ℕ) → ((k : ℕ) → get_or xs k 0 ≤ most) → sum xs ≤ most * length xs
sum_limit [] most h = omega arith
sum_limit (x ∷ xs) most h = omega (arith, sum_by-cons (λ x. x) x xs, h 0, sum_limit xs most (λ k. h (suc k)))

-- a test that at most one number passes picks a time once
never : (b : Bool) (t : ℕ) → (b ≡ true → ⊥) → cond b t 0 ≡ 0
never true t h = absurd (h refl)
never false t h = refl

one_picked : (p : ℕ → Bool) (t n : ℕ) → ((j k : ℕ) → p j ≡ true → p k ≡ true → j ≡ k) → all (λ k. cond (p k) t 0) n ≤ t
one_picked p t zero h = omega arith
one_picked p t (suc n) h = by (p 0) refl (one_picked (λ k. p (suc k)) t n
    (λ j k a b. omega (arith, h (suc j) (suc k) a b)))
  where
    by : (b : Bool) → p 0 ≡ b → all (λ k. cond (p (suc k)) t 0) n ≤ t
        → cond b t 0 + all (λ k. cond (p (suc k)) t 0) n ≤ t
    by true e rest = omega (
      arith,
      all_none (λ k. cond (p (suc k)) t 0) n
          (λ k. never (p (suc k)) t (λ g. omega (arith, h 0 (suc k) e g))),
    )
    by false e rest = omega (arith, rest)

-- the times at all stations are no more than all times
stations_below : (station : ℕ → ℕ) (times : List ℕ) (n : ℕ)
    → all (λ k. sum_where (λ t. nat_eq (station t) (k + 1)) times) n ≤ sum times
stations_below station [] n = omega (arith, all_none (λ k. 0) n (λ k. refl))
stations_below station (t ∷ ts) n =
    let first = one_picked (λ k. nat_eq (station 0) (k + 1)) t n (λ j k a b. grind (arith, nat_tests)) in
    let rest = stations_below (λ i. station (suc i)) ts n in
    omega (
      arith,
      sum_by-cons (λ x. x) t ts,
      all_plus (λ k. cond (nat_eq (station 0) (k + 1)) t 0)
          (λ k. sum_where (λ i. nat_eq (station (suc i)) (k + 1)) ts) n,
      first,
      rest,
    )

-- the work of units
abbrev pub work_sum : (ℕ → ℕ) → List ℕ → ℕ
work_sum work [] = 0
work_sum work (m ∷ units) = work m + work_sum work units

-- there is no more utility work than work
utility_below : (reach interval start : ℕ) (work : ℕ → ℕ) (units : List ℕ) → start ≤ reach
    → utility_from reach interval work start units ≤ work_sum work units
utility_below reach interval start work [] h = omega arith
utility_below reach interval start work (m ∷ units) h =
    let rest = utility_below reach interval (next_start start (work m) reach interval) work units (omega (arith, h)) in
    omega (arith, h, rest)

-- the work of units at all stations, where a model has at most so much
units_below : (work : ℕ → ℕ → ℕ) (most models n : ℕ) (units : List ℕ)
    → ((m : ℕ) → m < models → all (λ k. work k m) n ≤ most) → All (λ m. m < models) units
    → all (λ k. work_sum (work k) units) n ≤ most * length units
units_below work most models n [] h within = omega (arith, all_none (λ k. 0) n (λ k. refl))
units_below work most models n (m ∷ units) h within =
    let rest = units_below work most models n units h (λ k d less. within (suc k) d (omega (arith, less))) in
    omega (arith, all_plus (λ k. work k m) (λ k. work_sum (work k) units) n, h m (within zero 0 (omega arith)), rest)

-- a model has at most 1,024 tasks of at most 1,000,000,000
model_below : (tasks : ℕ) (model : LineModel) → tasks ≤ 1024 → IsModel tasks model
    → sum (map (λ t. unwrap_or t 0) model.times) ≤ 1024000000000
model_below tasks model few h =
    let limit = sum_limit (map (λ t. unwrap_or t 0) model.times) 1000000000
    (λ k. omega (arith, time_is model.times k, h.times k)) in
    omega (arith, limit, as_many model.times, h.many, few)

-- the sum of all stations
pub total_below : (mix : MixedLine) (places : List Seatplace) (units : List ℕ) (interval : ℕ) (lengths per : List ℕ)
    → IsMix mix → All (λ m. m < length mix.models) units
    → ((k : ℕ) → k < length per → get_or per k 0 ≡ station_utility mix places units interval (get_or lengths k 0)
    (k + 1))
    → sum per ≤ 1024000000000 * length units
total_below mix places units interval lengths per right within each =
    let work : ℕ → ℕ → ℕ = λ k m. work_at places (k + 1) (model_at mix.models m) in
    let overload : sum per ≤ all (λ k. work_sum (work k) units) (length per) =
    sum_below per (λ k. work_sum (work k) units) (λ k h. omega
    (arith, each k h, utility_below (get_or lengths k 0) interval 0 (work k) units (omega arith))) in
    let spread = units_below work 1024000000000 (length mix.models) (length per) units
    (λ m h. omega (
      arith,
      stations_below (λ t. (seat places t).station) (map (λ t. unwrap_or t 0) (model_at mix.models m).times)
          (length per),
      model_below mix.tasks (model_at mix.models m) right.draft.few
          (right.draft.each m (record { name = []; demand = 0; times = []; arcs = [] }) h),
    )) within in
    omega (arith, overload, spread)
