-- Where the search for the least cycle begins.
use Rattle.std.specs.Prelude.{ℕ, max}
use Rattle.line_instance.specs.Line.{Line, Apart}
use Rattle.line_rules.specs.Balance.{all_tasks}
use Rattle.line_rules.specs.Bounds.{total_time, up}
use Rattle.line_rules.specs.declared.types.Side.TheVariants.{Front}
use Rattle.line_rules.specs.declared.types.Seatplace.{Seatplace}
use Rattle.line_rules.specs.Times.{longest_of}

-- no two tasks are apart
abbrev pub NoneApart : Line → Type 0
NoneApart line = (i j : ℕ) → Apart line i j → ⊥

-- The first lower end for m stations: the greatest of 1, the longest time, and the total time divided by the stations,
-- rounded up. (Scholl.)
abbrev pub first_lower : Line → ℕ → ℕ
first_lower line m = max (max (up (total_time line) m) (longest_of line (all_tasks line))) 1

-- The first upper end: the greater of 1 and the total time, with all tasks at station 1. (Own.)
abbrev pub first_upper : Line → ℕ
first_upper line = max (total_time line) 1

-- the first station, in front
abbrev pub at_first : Seatplace
at_first = record { station = 1; side = Front }
