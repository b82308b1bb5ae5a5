-- Utility work (Scholl): units of models come to a closed station one launch interval apart, and whatever a worker
-- can't do before the station's end is done by a utility worker. Places in a station are told in units of time, and `-`
-- stops at 0.
use Rattle.std.specs.Prelude.{ℕ, ◌+◌, ◌-◌, nat_eq, List, [], ◌∷◌, map, unwrap_or}
use Rattle.combined_graph.specs.Mixes.{LineModel, MixedLine, model_at}
use Rattle.line_instance.specs.Sums.{sum_where}
use Rattle.line_rules.specs.Balance.{seat}
use Rattle.line_rules.specs.declared.types.Seatplace.{Seatplace}

-- the times of a model's tasks at a station
abbrev pub work_at : List Seatplace → ℕ → LineModel → ℕ
work_at places station model = sum_where (λ t. nat_eq (seat places t).station station)
    (map (λ time. unwrap_or time 0) model.times)

-- the utility work of a unit: what of its work would be done behind the station's end
abbrev pub utility_of : ℕ → ℕ → ℕ → ℕ
utility_of start work length = start + work - length

-- where the next unit is begun: an interval before the place at which this one is left, and not before the station
abbrev pub next_start : ℕ → ℕ → ℕ → ℕ → ℕ
next_start start work length interval = start + work - utility_of start work length - interval

-- the utility work of all units, where the first is begun at `start` and a unit of model m brings so much work
abbrev pub utility_from : ℕ → ℕ → (ℕ → ℕ) → ℕ → List ℕ → ℕ
utility_from length interval work start [] = 0
utility_from length interval work start (m ∷ units) =
    utility_of start (work m) length + utility_from length interval work (next_start start (work m) length interval)
    units

-- the utility work at a station, of which the first unit is begun at the station's beginning
abbrev pub station_utility : MixedLine → List Seatplace → List ℕ → ℕ → ℕ → ℕ → ℕ
station_utility mix places units interval length station = utility_from length interval
    (λ m. work_at places station (model_at mix.models m)) 0 units
