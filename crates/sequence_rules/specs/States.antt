-- The states that a sequence of units passes through (Scholl): a state is how many units of each model are left, and
-- where the next unit is begun at each station. A step launches a unit of one model, and its cost is the utility work
-- of that unit. Models and stations are counted from 0, `reach` is the length of each station, and `-` stops at 0.
use Rattle.std.specs.Prelude.{◌≡◌, ℕ, suc, ◌+◌, ◌-◌, ◌*◌, ◌≤◌, nat_eq, cond, List, [], ◌∷◌, slice_index_or, slice_set}
use Rattle.std.specs.Prelude.{replicate, sum, count_by}
pub use Rattle.utility_work.specs.Utility.{utility_of, next_start, utility_from}
use Rattle.sequence_values.specs.declared.types.Times.{Times}

-- the sum over the places of a list, by a function of the place and of the number there
abbrev pub sum_over : (ℕ → ℕ → ℕ) → List ℕ → ℕ
sum_over f [] = 0
sum_over f (x ∷ xs) = f 0 x + sum_over (λ k. f (suc k)) xs

-- the value of such a function at each place of a list
abbrev pub value_at_each : (ℕ → ℕ → ℕ) → List ℕ → List ℕ
value_at_each f [] = []
value_at_each f (x ∷ xs) = f 0 x ∷ value_at_each (λ k. f (suc k)) xs

-- the work that a unit of a model brings to a station
abbrev pub unit_work : Times → ℕ → ℕ → ℕ
unit_work t model station = slice_index_or t.work (model * t.stations + station) 0

-- the utility work of a unit of a model that is begun at these starts
abbrev pub step_cost : Times → ℕ → ℕ → List ℕ → ℕ
step_cost t reach model starts = sum_over (λ k s. utility_of s (unit_work t model k) reach) starts

-- where the unit after it is begun
abbrev pub next_starts : Times → ℕ → ℕ → ℕ → List ℕ → List ℕ
next_starts t interval reach model starts = value_at_each (λ k s. next_start s (unit_work t model k) reach interval)
    starts

-- what is left when a unit of a model is launched
abbrev pub less_one : List ℕ → ℕ → List ℕ
less_one rem model = slice_set rem model (slice_index_or rem model 0 - 1)

-- the work that the units that are left bring to a station
abbrev pub work_left : Times → List ℕ → ℕ → ℕ
work_left t rem station = sum_over (λ m units. units * unit_work t m station) rem

-- The bound of a state: 0 where nothing is left. Else at each station what of its start and of the work left goes past
-- the station's end and past the intervals between the units that are left.
abbrev pub state_bound : Times → ℕ → ℕ → List ℕ → List ℕ → ℕ
state_bound t interval reach rem starts =
    cond (nat_eq (sum rem) 0) 0 (sum_over (λ k s. s + work_left t rem k - reach - (sum rem - 1) * interval) starts)

-- the units are those that are left: each model stands among them as often as it is left, and nothing else does
abbrev pub IsSequenceOf : List ℕ → List ℕ → Type 0
IsSequenceOf rem units = (m : ℕ) → count_by (λ u. nat_eq u m) units ≡ slice_index_or rem m 0

-- the cost of a sequence of units from these starts on: its utility work at all stations
abbrev pub cost : Times → ℕ → ℕ → List ℕ → List ℕ → ℕ
cost t interval reach starts units = sum_over (λ k s. utility_from reach interval (λ m. unit_work t m k) s units) starts

-- every sequence of what is left, from these starts on, costs at least so much
abbrev pub Holds : Times → ℕ → ℕ → List ℕ → List ℕ → ℕ → Type 0
Holds t interval reach rem starts least = (units : List ℕ) → IsSequenceOf rem units
    → least ≤ cost t interval reach starts units

-- the first unit is begun at the beginning of each station
abbrev pub root_starts : Times → List ℕ
root_starts t = replicate t.stations 0
