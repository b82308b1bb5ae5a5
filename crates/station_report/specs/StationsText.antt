-- The printed station lines of a balance, as a function of its places, with the numbers of the tasks or with their
-- names.
use Rattle.std.specs.Prelude.{ℕ, zero, suc, Bool, true, false, ◌&&◌, cond, nat_eq, List, [], ◌∷◌, ◌++◌, codes, decimal}
use Rattle.std.specs.List.{list_any}
use Rattle.line_rules.specs.declared.types.LineKind.{LineKind}
use Rattle.line_rules.specs.declared.types.LineKind.TheVariants.{Straight, U}
use Rattle.line_rules.specs.declared.types.Side.{Side}
use Rattle.line_rules.specs.declared.types.Side.TheVariants.{Front, Back}
use Rattle.line_rules.specs.declared.types.Seatplace.{Seatplace}
use Rattle.task_names.specs.TaskNames.{name_at}
use Rattle.task_names.specs.declared.naming.Naming.{Naming}
use Rattle.task_names.specs.declared.naming.Naming.TheVariants.{Numbered, Named}

-- whether a side is this one
abbrev pub is_side : Side → Side → Bool
is_side Front Front = true
is_side Front Back = false
is_side Back Front = false
is_side Back Back = true

-- whether a place is at a station, on a side
abbrev pub is_at : Side → ℕ → Seatplace → Bool
is_at side station p = is_side p.side side && nat_eq p.station station

-- whether a station has a task on a side
abbrev pub has_task : Side → ℕ → List Seatplace → Bool
has_task side station places = list_any (is_at side station) places

-- the numbers of the tasks at a station on a side, from task number i on, each after a blank
abbrev pub numbers_at : Side → ℕ → ℕ → List Seatplace → List ℕ
numbers_at side station i [] = []
numbers_at side station i (p ∷ places) =
    cond (is_at side station p) (codes " " ++ decimal i) [] ++ numbers_at side station (suc i) places

-- the tasks at the back of a station, where it has any; a straight line has no back
abbrev pub back_part : LineKind → ℕ → List Seatplace → List ℕ
back_part Straight station places = []
back_part U station places = cond (has_task Back station places) (codes " back" ++ numbers_at Back station 1 places) []

-- the line of a station: its number, its tasks in front, and those at the back
abbrev pub numbered_line : LineKind → ℕ → List Seatplace → List ℕ
numbered_line kind station places =
    codes "station " ++ decimal station ++ codes ":" ++ numbers_at Front station 1 places
    ++ back_part kind station places ++ codes "\n"

-- the names of the tasks at a station on a side, from task i on, ascending by their numbers
abbrev pub names_at : List (List ℕ) → Side → ℕ → ℕ → List Seatplace → List (List ℕ)
names_at names side station i [] = []
names_at names side station i (p ∷ places) =
    cond (is_at side station p) (name_at names i ∷ []) [] ++ names_at names side station (suc i) places

-- names that stand behind another one: each after a semicolon and a blank
abbrev pub further : List (List ℕ) → List ℕ
further [] = []
further (n ∷ names) = codes "; " ++ n ++ further names

-- names, each after a blank, with a semicolon behind each but the last
abbrev pub listed : List (List ℕ) → List ℕ
listed [] = []
listed (n ∷ names) = codes " " ++ n ++ further names

-- the line of a station's tasks at the back by their names, where it has any; a straight line has no back
abbrev pub back_line : List (List ℕ) → LineKind → ℕ → List Seatplace → List ℕ
back_line names Straight station places = []
back_line names U station places =
    cond (has_task Back station places)
    (codes "station " ++ decimal station ++ codes " back:" ++ listed (names_at names Back station 0 places) ++ codes
    "\n")
    []

-- the lines of a station by the names of its tasks: those in front, and those at the back
abbrev pub named_lines : List (List ℕ) → LineKind → ℕ → List Seatplace → List ℕ
named_lines names kind station places =
    codes "station " ++ decimal station ++ codes ":" ++ listed (names_at names Front station 0 places) ++ codes "\n"
    ++ back_line names kind station places

-- the lines of a station, as its tasks are called
abbrev pub station_lines : Naming → LineKind → ℕ → List Seatplace → List ℕ
station_lines Numbered kind station places = numbered_line kind station places
station_lines (Named names) kind station places = named_lines names kind station places

-- the lines of n stations, from station k on
abbrev pub lines_from : Naming → LineKind → ℕ → ℕ → List Seatplace → List ℕ
lines_from naming kind k zero places = []
lines_from naming kind k (suc n) places =
    station_lines naming kind k places ++ lines_from naming kind (suc k) n places

-- the lines of so many stations, from the first one on
abbrev pub stations_text : Naming → LineKind → ℕ → List Seatplace → List ℕ
stations_text naming kind stations places = lines_from naming kind 1 stations places
