-- The numbers of a picture that stand for the whole line, and those that its layout follows from.
use Rattle.std.specs.Prelude.{ℕ, ◌+◌, ◌-◌, ◌*◌, ◌/◌, ◌≤◌, max, nat_eq, cond, List, length, decimal}
use Rattle.line_instance.specs.Line.{Line}
use Rattle.line_rules.specs.Balance.{all_tasks, seat, time_at}
use Rattle.line_rules.specs.Bounds.{greatest_below, total_time}
use Rattle.line_rules.specs.declared.types.LineKind.{LineKind}
use Rattle.line_rules.specs.declared.types.Seatplace.{Seatplace}
use Rattle.line_rules.specs.declared.types.Balance.{Balance as Assignment}
use Rattle.line_drawing.specs.Segments.{segments_at}
use Rattle.line_drawing.specs.Notes.{note_of}
use Rattle.line_drawing.specs.declared.figures.Figures.{Figures}

-- the sum of the times at a station
abbrev pub sum_at : Line → List Seatplace → ℕ → ℕ
sum_at line places station = time_at line (all_tasks line) (seat places) station

-- the greatest sum of so many stations
abbrev pub longest_of : Line → List Seatplace → ℕ → ℕ
longest_of line places stations = greatest_below stations (λ k. sum_at line places (k + 1))

-- the room for notes, in bytes: none without notes, and else the greatest of 12 and their lengths
abbrev pub room_for : ℕ → ℕ
room_for longest = cond (nat_eq longest 0) 0 (max 12 longest)

-- the length of the longest note of so many stations
abbrev pub longest_note : Line → ℕ → List Seatplace → ℕ → ℕ
longest_note line cycle places stations = greatest_below stations
    (λ k. length (note_of (segments_at line cycle places (k + 1))))

-- how wide a column of times is: for 4 digits, or as many as the cycle has, whichever is more
abbrev pub column_of : ℕ → ℕ
column_of cycle = 8 * max 4 (length (decimal cycle)) + 12

-- what a picture needs of the whole line
abbrev pub figures_of : Line → LineKind → ℕ → Assignment → Figures
figures_of line kind cycle b = record {
  kind = kind;
  stations = b.stations;
  cycle = cycle;
  total = total_time line;
  longest = longest_of line b.place b.stations;
  column = column_of cycle;
  notes = room_for (longest_note line cycle b.place b.stations);
}

-- the size of the picture
abbrev pub width_of : Figures → ℕ
width_of f = 944 + 2 * f.column + 8 * f.notes

abbrev pub height_of : Figures → ℕ
height_of f = 112 + 24 * f.stations

-- the idle time of all stations
abbrev pub idle_of : Figures → ℕ
idle_of f = f.stations * f.cycle - f.total

-- the efficiency in tenths of a percent
abbrev pub efficiency_of : Figures → ℕ
efficiency_of f = 1000 * f.total / (f.stations * f.cycle)

-- What is true of them: one station or more, a cycle time, room for the total time, and a layout of a small size.
pub record AreFigures (f : Figures) : Type 0 where
  pub some : 1 ≤ f.stations
  pub few : f.stations ≤ 1024
  pub cycle : 1 ≤ f.cycle
  pub limit : f.cycle ≤ 1000000000000000000
  pub room : f.total ≤ f.stations * f.cycle
  pub column : f.column ≤ 172
  pub notes : f.notes ≤ 40
