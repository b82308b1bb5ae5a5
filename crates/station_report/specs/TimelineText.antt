-- The timeline of a sequence on a balanced line as comma-separated values (own form of Scholl's utility work): for each
-- station and each unit where the unit is begun, its work there, and what of that is utility work.
use Rattle.std.specs.Prelude.{◌≡◌, ℕ, zero, suc, ◌*◌, ◌<◌, ◌≤◌, List, [], ◌∷◌, ◌++◌, length, codes, decimal}
use Rattle.line_rules.specs.declared.types.Seatplace.{Seatplace}
use Rattle.line_rules.specs.declared.types.Balance.{Balance as Assignment}
use Rattle.combined_graph.specs.Mixes.{LineModel, MixedLine, model_at}
use Rattle.utility_work.specs.Utility.{work_at, utility_of, next_start}
use Rattle.station_report.specs.declared.timeline_text.TimelineRead.{TimelineRead}
use Rattle.station_report.specs.declared.timeline_text.TimelineRead.TheVariants.{Text, TooLarge, NoMemory}

-- the names of the columns
abbrev pub timeline_heading : List ℕ
timeline_heading = codes "station,unit,model,start,work,utility\n"

-- a row: the numbers of the station and of the unit, the name of the unit's model, and three times
abbrev pub timeline_row : ℕ → ℕ → List ℕ → ℕ → ℕ → ℕ → List ℕ
timeline_row station unit name start work utility =
    decimal station ++ codes "," ++ decimal unit ++ codes "," ++ name ++ codes "," ++ decimal start ++ codes ","
    ++ decimal work ++ codes ","
    ++ decimal utility ++ codes "\n"

-- the rows of units at a station: the first unit has number k and is begun at `start`, and a unit of model m brings so
-- much work
abbrev pub unit_rows : List LineModel → (ℕ → ℕ) → ℕ → ℕ → ℕ → ℕ → ℕ → List ℕ → List ℕ
unit_rows models work station interval length k start [] = []
unit_rows models work station interval length k start (m ∷ units) =
    timeline_row station k (model_at models m).name start (work m) (utility_of start (work m) length)
    ++ unit_rows models work station interval length (suc k) (next_start start (work m) length interval) units

-- the rows of all units at a station, of which the first is begun at the station's beginning
abbrev pub station_rows : MixedLine → List Seatplace → List ℕ → ℕ → ℕ → ℕ → List ℕ
station_rows mix places units interval length station =
    unit_rows mix.models (λ m. work_at places station (model_at mix.models m)) station interval length 1 0 units

-- the rows of n stations, from station k on
abbrev pub rows_from : MixedLine → List Seatplace → List ℕ → ℕ → ℕ → ℕ → ℕ → List ℕ
rows_from mix places units interval length k zero = []
rows_from mix places units interval length k (suc n) =
    station_rows mix places units interval length k ++ rows_from mix places units interval length (suc k) n

-- the heading, and the rows by station and then unit, both counted from 1
abbrev pub timeline_text : MixedLine → Assignment → List ℕ → ℕ → ℕ → List ℕ
timeline_text mix b units interval length = timeline_heading ++ rows_from mix b.place units interval length 1 b.stations

-- Each answer with its cause: the whole text, of at most 1,000,000 rows; or there are more.
abbrev pub IsTimelineRead : MixedLine → Assignment → List ℕ → ℕ → ℕ → TimelineRead → Type 0
IsTimelineRead mix b units interval reach (Text bytes) = (bytes.items ≡ timeline_text mix b units interval reach)
    × (length units * b.stations ≤ 1000000)
IsTimelineRead mix b units interval reach TooLarge = 1000000 < length units * b.stations
IsTimelineRead mix b units interval reach NoMemory = Unit {0}
