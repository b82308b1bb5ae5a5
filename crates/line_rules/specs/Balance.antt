-- What a balance of a set of tasks is, on a straight line (Scholl's SALBP) and on a U-line (Scholl and Klein's ULINO,
-- restated over the closure of the precedences).
use Rattle.std.specs.Prelude.{◌≡◌, ◌≢◌, ℕ, ◌≤◌, Bool, ◌&&◌, nat_eq, List, length, slice_index_or}
use Rattle.line_instance.specs.Truths.{In, full_to}
use Rattle.line_instance.specs.Line.{Line, Before, Apart, has, tasks}
use Rattle.line_instance.specs.Sums.{sum_where}
use Rattle.line_rules.specs.declared.types.LineKind.{LineKind}
use Rattle.line_rules.specs.declared.types.LineKind.TheVariants.{Straight, U}
use Rattle.line_rules.specs.declared.types.Side.{Side}
use Rattle.line_rules.specs.declared.types.Side.TheVariants.{Front, Back}
use Rattle.line_rules.specs.declared.types.Seatplace.{Seatplace}
use Rattle.line_rules.specs.declared.types.Balance.{Balance as Assignment}

-- A U-line keeps a precedence where: if the later task is in front, the earlier one is in front too and at no later
-- station; if the earlier one is at the back, the later one is at the back too and at no later station.
pub record KeepsU (earlier later : Seatplace) : Type 0 where
  pub front : later.side ≡ Front → (earlier.side ≡ Front) × (earlier.station ≤ later.station)
  pub back : earlier.side ≡ Back → (later.side ≡ Back) × (later.station ≤ earlier.station)

-- A straight line keeps a precedence where the earlier task has no later station.
abbrev pub Keeps : LineKind → Seatplace → Seatplace → Type 0
Keeps Straight earlier later = earlier.station ≤ later.station
Keeps U earlier later = KeepsU earlier later

-- the times of the tasks of R at a station
abbrev pub time_at : Line → List Bool → (ℕ → Seatplace) → ℕ → ℕ
time_at line R place s = sum_where (λ i. has R i && nat_eq (place i).station s) line.times

-- A balance of R in r stations at cycle c: each task of R has a station 1..r, precedences are kept, tasks that are
-- apart have different stations, and the times of each station sum to at most c. A station may be empty.
pub record IsBalance (kind : LineKind) (line : Line) (c : ℕ) (R : List Bool) (r : ℕ)
    (place : ℕ → Seatplace) : Type 0 where
  pub first : (i : ℕ) → In R i → 1 ≤ (place i).station
  pub last : (i : ℕ) → In R i → (place i).station ≤ r
  pub keeps : (i j : ℕ) → In R i → In R j → Before line i j → Keeps kind (place i) (place j)
  pub parted : (i j : ℕ) → In R i → In R j → Apart line i j → (place i).station ≢ (place j).station
  pub fits : (s : ℕ) → time_at line R place s ≤ c

-- R has no balance in r stations at cycle c
abbrev pub Holds : LineKind → Line → ℕ → List Bool → ℕ → Type 0
Holds kind line c R r = (place : ℕ → Seatplace) → IsBalance kind line c R r place → ⊥

-- the set of all tasks
abbrev pub all_tasks : Line → List Bool
all_tasks line = full_to (tasks line)

-- the place of a task in a list of places
abbrev pub seat : List Seatplace → ℕ → Seatplace
seat places i = slice_index_or places i (record { station = 0; side = Front })

-- a straight line has no back
abbrev pub IsSide : LineKind → Side → Type 0
IsSide Straight side = side ≡ Front
IsSide U side = Unit {0}

-- A right balance of the line: a place for each task, on sides that the line has, and these places are a balance of all
-- tasks.
pub record IsRight (kind : LineKind) (line : Line) (c : ℕ) (b : Assignment) : Type 0 where
  pub each : length b.place ≡ tasks line
  pub sides : (i : ℕ) → In (all_tasks line) i → IsSide kind (seat b.place i).side
  pub balance : IsBalance kind line c (all_tasks line) b.stations (seat b.place)
