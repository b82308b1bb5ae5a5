-- The plan of a balance: where and when each task is done, as a sheet with a record for each task (own).
use Rattle.std.specs.Prelude.{ℕ, zero, suc, ◌+◌, ◌-◌, Bool, cond, codes, decimal, List, [], ◌∷◌, ◌++◌, map}
use Rattle.line_instance.specs.Line.{Line, time}
use Rattle.line_rules.specs.declared.types.Side.{Side}
use Rattle.line_rules.specs.declared.types.Side.TheVariants.{Front, Back}
use Rattle.line_rules.specs.declared.types.Seatplace.{Seatplace}
use Rattle.line_rules.specs.declared.types.Balance.{Balance as Assignment}
use Rattle.task_names.specs.TaskNames.{name_at}
use Rattle.sheet_rows.specs.SheetRows.{rows_text}
use Rattle.line_drawing.specs.Segments.{tasks_at, times_of}

-- when a task is done: its station, its side, the task, and where in the cycle it begins and ends
pub record Turn : Type 0 where
  pub station : ℕ
  pub side : Side
  pub task : ℕ
  pub start : ℕ
  pub finish : ℕ

-- the turns of tasks in front, behind tasks of this time: each begins where the one before it ends
abbrev pub front_turns : Line → ℕ → ℕ → List ℕ → List Turn
front_turns line station sum [] = []
front_turns line station sum (i ∷ is) =
    record { station = station; side = Front; task = i; start = sum; finish = sum + time line i }
    ∷ front_turns line station (sum + time line i) is

-- the turns of tasks at the back: each ends as long before the end of the cycle as the tasks after it take together
abbrev pub back_turns : Line → ℕ → ℕ → List ℕ → List Turn
back_turns line cycle station [] = []
back_turns line cycle station (i ∷ is) =
    record {
      station = station;
      side = Back;
      task = i;
      start = cycle - times_of line is - time line i;
      finish = cycle - times_of line is - time line i + time line i;
    }
    ∷ back_turns line cycle station is

-- the turns of a station: those in front in the order of ranks, and then those at the back
abbrev pub turns_at : Line → ℕ → List Seatplace → ℕ → List Turn
turns_at line cycle places station =
    front_turns line station 0 (tasks_at line places Front station)
    ++ back_turns line cycle station (tasks_at line places Back station)

-- the turns of n stations, from station k on
abbrev pub turns_from : Line → ℕ → List Seatplace → ℕ → ℕ → List Turn
turns_from line cycle places k zero = []
turns_from line cycle places k (suc n) = turns_at line cycle places k ++ turns_from line cycle places (suc k) n

-- the turns of a balance, station by station
abbrev pub turns_of : Line → ℕ → Assignment → List Turn
turns_of line cycle b = turns_from line cycle b.place 1 b.stations

-- the word for a side
abbrev pub side_word : Side → List ℕ
side_word Front = codes "front"
side_word Back = codes "back"

-- the names of the columns
abbrev pub plan_heading : List (List ℕ)
plan_heading =
    codes "station" ∷ codes "side" ∷ codes "number" ∷ codes "task" ∷ codes "time" ∷ codes "start" ∷ codes "end" ∷ []

-- the record of a turn; tasks are counted from 1 in it
abbrev pub plan_record : Line → List (List ℕ) → Turn → List (List ℕ)
plan_record line names t =
    decimal t.station ∷ side_word t.side ∷ decimal (t.task + 1) ∷ name_at names t.task ∷ decimal (time line t.task)
    ∷ decimal t.start ∷ decimal t.finish ∷ []

-- a byte-order mark, where one is wanted
abbrev pub bom_text : Bool → List ℕ
bom_text bom = cond bom (239 ∷ 187 ∷ 191 ∷ []) []

-- The text of the plan, with this mark between the fields.
abbrev pub plan_text : Line → List (List ℕ) → ℕ → Assignment → ℕ → Bool → List ℕ
plan_text line names cycle b mark bom =
    bom_text bom ++ rows_text mark (plan_heading ∷ map (plan_record line names) (turns_of line cycle b))
