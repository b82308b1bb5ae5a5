-- The list of the tasks below the rows: number, name, time and station of each.
use Rattle.std.specs.Prelude.{ℕ, zero, suc, ◌+◌, List, [], ◌∷◌, ◌++◌, codes, decimal}
use Rattle.task_names.specs.TaskNames.{name_at}
use Rattle.line_instance.specs.Line.{Line, tasks, time}
use Rattle.line_rules.specs.Balance.{seat}
use Rattle.line_rules.specs.declared.types.Seatplace.{Seatplace}
use Rattle.line_drawing.specs.Parts.{text_of}
use Rattle.named_drawing.specs.Escapes.{escaped}
use Rattle.named_drawing.specs.Page.{column_x, entry_x, entry_y, filled_columns, list_top, stations_x, times_x}
use Rattle.named_drawing.specs.declared.page.Page.{Page}

-- the words above a column of the list: above the names, and above the times and the stations
abbrev pub name_word_parts : ℕ → ℕ → List (List ℕ)
name_word_parts x y =
    codes "<text x=\"" ∷ decimal x ∷ codes "\" y=\"" ∷ decimal y ∷ codes
    "\" text-anchor=\"start\">task</text>" ∷ []

abbrev pub number_word_parts : ℕ → ℕ → ℕ → List (List ℕ)
number_word_parts time_x station_x y =
    codes "<text x=\"" ∷ decimal time_x ∷ codes "\" y=\"" ∷ decimal y
    ∷ codes "\">time</text><text x=\"" ∷ decimal station_x ∷ codes "\" y=\"" ∷ decimal y
    ∷ codes "\">station</text>\n" ∷ []

-- the heading of a column that begins at this place, and of column q
abbrev pub heading_of : Page → ℕ → List ℕ
heading_of p x =
    text_of (name_word_parts (x + 40) (list_top p + 12))
    ++ text_of (number_word_parts (times_x p x) (stations_x p x) (list_top p + 12))

abbrev pub heading_text : Page → ℕ → List ℕ
heading_text p q = heading_of p (column_x p q)

-- the headings of n columns, from column q on
abbrev pub headings_from : Page → ℕ → ℕ → List ℕ
headings_from p q zero = []
headings_from p q (suc n) = heading_text p q ++ headings_from p (suc q) n

-- the entry of a task: its number, its name, its time and its station
abbrev pub number_parts : Page → ℕ → List (List ℕ)
number_parts p i =
    codes "<text x=\"" ∷ decimal (entry_x p i + 32) ∷ codes "\" y=\"" ∷ decimal (entry_y p i)
    ∷ codes "\" font-style=\"italic\">" ∷ decimal (i + 1) ∷ codes "</text>" ∷ []

abbrev pub start_parts : Page → ℕ → List (List ℕ)
start_parts p i =
    codes "<text x=\"" ∷ decimal (entry_x p i + 40) ∷ codes "\" y=\"" ∷ decimal (entry_y p i)
    ∷ codes "\" text-anchor=\"start\">" ∷ []

abbrev pub time_parts : Page → ℕ → ℕ → List (List ℕ)
time_parts p i t =
    codes "</text><text x=\"" ∷ decimal (times_x p (entry_x p i)) ∷ codes "\" y=\"" ∷ decimal (entry_y p i)
    ∷ codes "\">" ∷ decimal t ∷ codes "</text>" ∷ []

abbrev pub station_parts : Page → ℕ → ℕ → List (List ℕ)
station_parts p i station =
    codes "<text x=\"" ∷ decimal (stations_x p (entry_x p i)) ∷ codes "\" y=\"" ∷ decimal (entry_y p i)
    ∷ codes "\">" ∷ decimal station ∷ codes "</text>\n" ∷ []

abbrev pub entry_text : Page → ℕ → List ℕ → ℕ → ℕ → List ℕ
entry_text p i name t station =
    text_of (number_parts p i)
    ++ text_of (start_parts p i)
    ++ escaped name
    ++ text_of (time_parts p i t)
    ++ text_of (station_parts p i station)

-- the entry of a task of the line
abbrev pub entry_of : Line → Page → List (List ℕ) → List Seatplace → ℕ → List ℕ
entry_of line p names places i = entry_text p i (name_at names i) (time line i) (seat places i).station

-- the entries of n tasks, from task i on
abbrev pub entries_from : Line → Page → List (List ℕ) → List Seatplace → ℕ → ℕ → List (List ℕ)
entries_from line p names places i zero = []
entries_from line p names places i (suc n) = entry_of line p names places i
    ∷ entries_from line p names places (suc i) n

-- The list of the tasks.
abbrev pub entries_text : Line → Page → List (List ℕ) → List Seatplace → List ℕ
entries_text line p names places = text_of (entries_from line p names places 0 (tasks line))

abbrev pub list_text : Line → Page → List (List ℕ) → List Seatplace → List ℕ
list_text line p names places =
    codes "<g text-anchor=\"end\">\n"
    ++ headings_from p 0 (filled_columns p (tasks line))
    ++ entries_text line p names places
    ++ codes "</g>\n</svg>\n"
