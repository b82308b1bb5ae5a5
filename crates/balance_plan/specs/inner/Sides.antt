-- The turns of either side of a station, from when its first task begins.
use Rattle.std.specs.Prelude.{◌≤◌, ℕ, ◌+◌, Bool, cond, List, [], ◌∷◌}
use Rattle.line_instance.specs.Line.{Line, time}
use Rattle.line_rules.specs.Balance.{seat}
use Rattle.line_rules.specs.declared.types.Side.TheVariants.{Front, Back}
use Rattle.line_rules.specs.declared.types.Seatplace.{Seatplace}
use Rattle.line_drawing.specs.Segments.{stands, tasks_at, times_of}
use Rattle.balance_plan.specs.Plan.{Turn}

-- whether a task has a place
abbrev pub has_place : List Seatplace → Seatplace → ℕ → Bool
has_place places place i = stands place.side place.station (seat places i)

-- the turn of a task that is begun at this time
abbrev pub turn_of : Line → Seatplace → ℕ → ℕ → Turn
turn_of line place i start =
    record { station = place.station; side = place.side; task = i; start = start; finish = start + time line i }

-- the turns of tasks that follow each other from this time on
abbrev pub turns_on : Line → Seatplace → ℕ → List ℕ → List Turn
turns_on line place start [] = []
turns_on line place start (i ∷ is) = turn_of line place i start ∷ turns_on line place (start + time line i) is

-- those of these tasks that have the place, where it is so
abbrev pub turns_if : Line → Seatplace → ℕ → Bool → ℕ → List Turn
turns_if line place start wanted i = turns_on line place start (cond wanted (i ∷ []) [])

-- the times of both sides of a station fit into the cycle
abbrev pub BothFit : Line → ℕ → List Seatplace → ℕ → Type 0
BothFit line cycle places station =
    times_of line (tasks_at line places Front station) + times_of line (tasks_at line places Back station) ≤ cycle
