-- The units at the stations: where each is begun, its work, and what of that is utility work (Scholl). Stations and
-- units are counted from 0.
use Rattle.std.specs.Prelude.{◌≡◌, ℕ, zero, suc, ◌+◌, ◌-◌, ◌<◌, ◌≤◌, max, List, [], ◌∷◌, ◌++◌, length, slice_index_or}
use Rattle.combined_graph.specs.Mixes.{MixedLine, model_at}
use Rattle.line_rules.specs.declared.types.Seatplace.{Seatplace}
use Rattle.line_rules.specs.declared.types.Balance.{Balance as Assignment}
use Rattle.utility_work.specs.Utility.{work_at, utility_of, next_start}
use Rattle.timeline_drawing.specs.declared.visits.Visit.{Visit}

-- what a picture is of: a mix, a balance of its line, the models of the units that are launched one interval apart, and
-- the length of each station
pub record Course : Type 0 where
  pub mix : MixedLine
  pub balance : Assignment
  pub units : List ℕ
  pub interval : ℕ
  pub reach : ℕ

-- the same by its parts
abbrev pub course : MixedLine → Assignment → List ℕ → ℕ → ℕ → Course
course mix b units interval reach =
    record { mix = mix; balance = b; units = units; interval = interval; reach = reach }

-- the model of unit j, and its name
abbrev pub model_of : Course → ℕ → ℕ
model_of d j = slice_index_or d.units j 0

abbrev pub name_of : Course → ℕ → List ℕ
name_of d j = (model_at d.mix.models (model_of d j)).name

-- p: the work that unit j brings to station k
abbrev pub work_of : Course → ℕ → ℕ → ℕ
work_of d k j = work_at d.balance.place (k + 1) (model_at d.mix.models (model_of d j))

-- s: where unit j is begun at station k; the first one is begun at the station's beginning
abbrev pub start_at : Course → ℕ → ℕ → ℕ
start_at d k zero = 0
start_at d k (suc j) = next_start (start_at d k j) (work_of d k j) d.reach d.interval

-- a unit at a station, of which it is known where it is begun and what work it brings
abbrev pub visit_of : ℕ → ℕ → ℕ → ℕ → ℕ → ℕ → Visit
visit_of station unit start work reach interval = record {
  station = station;
  unit = unit;
  start = start;
  work = work;
  utility = utility_of start work reach;
  next = next_start start work reach interval;
}

-- unit j at station k: s, p and u
abbrev pub visit_at : Course → ℕ → ℕ → Visit
visit_at d k j = visit_of k j (start_at d k j) (work_of d k j) d.reach d.interval

-- unit j at the first n stations, in order
abbrev pub row_to : Course → ℕ → ℕ → List Visit
row_to d j zero = []
row_to d j (suc n) = row_to d j n ++ visit_at d n j ∷ []

-- unit j at all stations, in order
abbrev pub row_of : Course → ℕ → List Visit
row_of d j = row_to d j d.balance.stations

-- UTIL of a unit: the sum of its utility work
abbrev pub row_utility : List Visit → ℕ
row_utility [] = 0
row_utility (v ∷ vs) = v.utility + row_utility vs

-- where the work of a unit at a station ends: s + p, and where that of the station's own worker does
abbrev pub work_end : Visit → ℕ
work_end v = v.start + v.work

abbrev pub bar_end : Visit → ℕ
bar_end v = v.start + v.work - v.utility

-- the greatest s + p of a unit
abbrev pub latest_of : List Visit → ℕ
latest_of [] = 0
latest_of (v ∷ vs) = max (work_end v) (latest_of vs)

-- what is true of each visit: its times are small, and no more is utility work than there is work
pub record IsVisit (v : Visit) : Type 0 where
  pub ends : work_end v ≤ 1025000000000
  pub own : v.utility ≤ v.work

-- the works of the models at each station, as a table with a row a station
pub record AreWorks (mix : MixedLine) (places : List Seatplace) (rows : List (List ℕ)) (n : ℕ) : Type 0 where
  pub each : length rows ≡ n
  pub work : (s m : ℕ) → s < n → m < length mix.models → slice_index_or (slice_index_or rows s []) m 0
      ≡ work_at places (s + 1) (model_at mix.models m)
  pub limit : (s m : ℕ) → s < n → slice_index_or (slice_index_or rows s []) m 0 ≤ 1024000000000
  pub wide : (s : ℕ) → s < n → length (slice_index_or rows s []) ≡ 16

-- where unit j is begun, at each station
pub record AreStarts (d : Course) (j : ℕ) (starts : List ℕ) : Type 0 where
  pub each : length starts ≡ d.balance.stations
  pub start : (k : ℕ) → k < d.balance.stations → slice_index_or starts k 0 ≡ start_at d k j
