-- Where the tasks of a station are drawn in its row.
use Rattle.std.specs.Prelude.{ℕ, ◌+◌, ◌-◌, ◌*◌, ◌/◌, Bool, true, false, ◌&&◌, nat_eq, List, [], ◌∷◌, ◌++◌, filter}
use Rattle.line_instance.specs.Line.{Line, time}
use Rattle.line_rules.specs.Balance.{seat}
use Rattle.line_rules.specs.declared.types.Side.{Side}
use Rattle.line_rules.specs.declared.types.Side.TheVariants.{Front, Back}
use Rattle.line_rules.specs.declared.types.Seatplace.{Seatplace}
use Rattle.line_drawing.specs.declared.segments.Segment.{Segment}

-- where a segment ends
abbrev pub end_of : Segment → ℕ
end_of s = s.x + s.width

-- the position of a sum of times in a row that is a cycle long
abbrev pub position : ℕ → ℕ → ℕ
position cycle sum = 800 * sum / cycle

-- whether a side is this one
abbrev pub is_side : Side → Side → Bool
is_side Front Front = true
is_side Front Back = false
is_side Back Front = false
is_side Back Back = true

-- whether a place is at a station, on a side
abbrev pub stands : Side → ℕ → Seatplace → Bool
stands side station p = is_side p.side side && nat_eq p.station station

-- the tasks at a station on a side, in the order of their ranks
abbrev pub tasks_at : Line → List Seatplace → Side → ℕ → List ℕ
tasks_at line places side station = filter (λ i. stands side station (seat places i)) line.order

-- the times of tasks together
abbrev pub times_of : Line → List ℕ → ℕ
times_of line [] = 0
times_of line (i ∷ is) = time line i + times_of line is

-- the segments of tasks in front, behind tasks of this sum: each begins where that sum ends, and ends where the sum
-- with its own time does
abbrev pub fronts_from : Line → ℕ → ℕ → List ℕ → List Segment
fronts_from line cycle sum [] = []
fronts_from line cycle sum (i ∷ is) =
    record {
      task = i;
      side = Front;
      time = time line i;
      x = position cycle sum;
      width = position cycle (sum + time line i) - position cycle sum;
    }
    ∷ fronts_from line cycle (sum + time line i) is

-- the segments of tasks at the back: each ends as far from the right as the tasks after it are long together
abbrev pub backs_of : Line → ℕ → List ℕ → List Segment
backs_of line cycle [] = []
backs_of line cycle (i ∷ is) =
    record {
      task = i;
      side = Back;
      time = time line i;
      x = 800 - position cycle (time line i + times_of line is);
      width = position cycle (time line i + times_of line is) - position cycle (times_of line is);
    }
    ∷ backs_of line cycle is

-- the segments of a station: those of its tasks in front, and then those at the back
abbrev pub segments_at : Line → ℕ → List Seatplace → ℕ → List Segment
segments_at line cycle places station =
    fronts_from line cycle 0 (tasks_at line places Front station)
    ++ backs_of line cycle (tasks_at line places Back station)
