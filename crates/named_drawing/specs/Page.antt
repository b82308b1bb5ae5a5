-- The numbers that the layout of a picture with names follows from.
use Rattle.std.specs.Prelude.{ℕ, ◌+◌, ◌-◌, ◌*◌, ◌/◌, ◌%◌, ◌≤◌, max, List, length, decimal}
use Rattle.task_names.specs.TaskNames.{name_at}
use Rattle.line_instance.specs.Line.{Line, tasks, time}
use Rattle.line_rules.specs.Bounds.{greatest_below, total_time}
use Rattle.line_rules.specs.declared.types.LineKind.{LineKind}
use Rattle.line_rules.specs.declared.types.Seatplace.{Seatplace}
use Rattle.line_rules.specs.declared.types.Balance.{Balance as Assignment}
use Rattle.line_drawing.specs.Segments.{segments_at}
use Rattle.line_drawing.specs.Figures.{AreFigures, column_of, longest_of, room_for, width_of}
use Rattle.line_drawing.specs.declared.figures.Figures.{Figures}
use Rattle.named_drawing.specs.Widths.{width}
use Rattle.named_drawing.specs.Labels.{named_note}
use Rattle.named_drawing.specs.declared.page.Page.{Page}

-- the length of the longest note of so many stations
abbrev pub longest_note : Line → ℕ → List (List ℕ) → List Seatplace → ℕ → ℕ
longest_note line cycle names places stations = greatest_below stations
    (λ k. length (named_note names (segments_at line cycle places (k + 1))))

-- the figures of a picture, with room for these notes
abbrev pub named_figures : Line → LineKind → ℕ → List (List ℕ) → Assignment → Figures
named_figures line kind cycle names b = record {
  kind = kind;
  stations = b.stations;
  cycle = cycle;
  total = total_time line;
  longest = longest_of line b.place b.stations;
  column = column_of cycle;
  notes = room_for (longest_note line cycle names b.place b.stations);
}

-- how wide the widest name is
abbrev pub widest_name : List (List ℕ) → ℕ
widest_name names = greatest_below (length names) (λ i. width (name_at names i))

-- the longest time, and the digits to leave room for: 4, or as many as it has, whichever is more
abbrev pub longest_time : Line → ℕ
longest_time line = greatest_below (tasks line) (time line)

abbrev pub time_digits : Line → ℕ
time_digits line = max 4 (length (decimal (longest_time line)))

-- how wide a column of the list is, with names of this width and times of so many digits
abbrev pub column_width : ℕ → ℕ → ℕ
column_width names digits = 128 + names + 8 * digits

-- how many tasks stand in a column, where so many columns find room: the tasks by the columns, rounded up
abbrev pub rows_of : ℕ → ℕ → ℕ
rows_of n columns = (n + (columns - 1)) / columns

-- how many columns find room
abbrev pub columns_of : Figures → ℕ → ℕ → ℕ
columns_of f names digits = (width_of f - 64) / column_width names digits

-- what a picture with names needs of the whole line
abbrev pub page_of : Line → LineKind → ℕ → List (List ℕ) → Assignment → Page
page_of line kind cycle names b =
    let f = named_figures line kind cycle names b in
    record {
      figures = f;
      names = widest_name names;
      digits = time_digits line;
      rows = rows_of (tasks line) (columns_of f (widest_name names) (time_digits line));
    }

-- where the list begins, from above
abbrev pub list_top : Page → ℕ
list_top p = 112 + 36 * p.figures.stations

-- how high the picture is
abbrev pub page_height : Page → ℕ
page_height p = list_top p + 40 + 16 * p.rows

-- where the column begins in which the entry of a task stands, and how far below the top it stands
abbrev pub column_x : Page → ℕ → ℕ
column_x p q = 64 + column_width p.names p.digits * q

abbrev pub entry_x : Page → ℕ → ℕ
entry_x p i = column_x p (i / p.rows)

abbrev pub entry_y : Page → ℕ → ℕ
entry_y p i = list_top p + 30 + 16 * (i % p.rows)

-- where the times and the stations of a column end
abbrev pub times_x : Page → ℕ → ℕ
times_x p x = x + 48 + p.names + 8 * p.digits

abbrev pub stations_x : Page → ℕ → ℕ
stations_x p x = x + 104 + p.names + 8 * p.digits

-- how many columns have a task, of n tasks
abbrev pub filled_columns : Page → ℕ → ℕ
filled_columns p n = (n - 1) / p.rows + 1

-- What is true of them: names and times of a small width, and a list of one row or more, and no more than there are
-- tasks.
pub record IsPage (p : Page) : Type 0 where
  pub figures : AreFigures p.figures
  pub names : p.names ≤ 768
  pub digits : p.digits ≤ 20
  pub some : 1 ≤ p.rows
  pub few : p.rows ≤ 1024
