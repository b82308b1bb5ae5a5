-- The row of a station, line by line.
use Rattle.std.specs.Prelude.{ℕ, ◌+◌, ◌-◌, ◌*◌, ◌/◌, Bool, not, nat_eq, cond, List, [], ◌∷◌, ◌++◌, length, codes}
use Rattle.std.specs.Prelude.{decimal}
use Rattle.std.specs.List.{list_any}
use Rattle.line_rules.specs.declared.types.LineKind.{LineKind}
use Rattle.line_rules.specs.declared.types.LineKind.TheVariants.{Straight, U}
use Rattle.line_rules.specs.declared.types.Side.{Side}
use Rattle.line_rules.specs.declared.types.Side.TheVariants.{Front, Back}
use Rattle.line_drawing.specs.Parts.{text_of}
use Rattle.line_drawing.specs.Segments.{is_side}
use Rattle.line_drawing.specs.Notes.{is_narrow, number_of}
use Rattle.line_drawing.specs.declared.segments.Segment.{Segment}
use Rattle.line_drawing.specs.declared.figures.Figures.{Figures}

-- the texts of the segments that pass a test, in order
abbrev pub each_where : (Segment → Bool) → (Segment → List ℕ) → List Segment → List ℕ
each_where p text [] = []
each_where p text (s ∷ ss) = cond (p s) (text s) [] ++ each_where p text ss

-- whether a segment is of this side
abbrev pub is_of : Side → Segment → Bool
is_of side s = is_side s.side side

-- the number of a task, after a blank
abbrev pub number_text : Segment → List ℕ
number_text s = codes " " ++ decimal (number_of s)

-- the tasks of a side, each after a blank
abbrev pub numbers_text : Side → List Segment → List ℕ
numbers_text side segments = each_where (is_of side) number_text segments

-- whether a segment is of this side
abbrev pub has_side : Side → List Segment → Bool
has_side side segments = list_any (is_of side) segments

-- the tasks at the back after the word for it, where there are some
abbrev pub backs_text : List Segment → List ℕ
backs_text segments = cond (has_side Back segments) (codes " back" ++ numbers_text Back segments) []

-- the tasks of a station: those in front, and those at the back
abbrev pub tasks_text : List Segment → List ℕ
tasks_text segments = numbers_text Front segments ++ backs_text segments

-- the heading of a row: what its station does, in words
abbrev pub place_parts : ℕ → List (List ℕ)
place_parts station =
    codes "<g transform=\"translate(64 " ∷ decimal (88 + 24 * station) ∷ codes ")\"><title>station " ∷ decimal
    station ∷ codes ":" ∷ []

abbrev pub place_text : ℕ → List ℕ
place_text station = text_of (place_parts station)

abbrev pub times_parts : Figures → ℕ → List (List ℕ)
times_parts f sum =
    codes ", time " ∷ decimal sum ∷ codes ", idle " ∷ decimal (f.cycle - sum) ∷ codes "</title>\n" ∷ []

abbrev pub times_text : Figures → ℕ → List ℕ
times_text f sum = text_of (times_parts f sum)

abbrev pub opening_text : Figures → ℕ → ℕ → List Segment → List ℕ
opening_text f station sum segments = place_text station ++ tasks_text segments ++ times_text f sum

-- the segment of a task
abbrev pub path_parts : Segment → List (List ℕ)
path_parts s =
    codes "<path d=\"M" ∷ decimal s.x ∷ codes "-14v20h" ∷ decimal s.width ∷ codes "v-20z\"><title>task "
    ∷ decimal (number_of s) ∷ codes ", time " ∷ decimal s.time ∷ codes "</title></path>\n" ∷ []

abbrev pub path_text : Segment → List ℕ
path_text s = text_of (path_parts s)

-- the frame of a row, and the segments in front in it
abbrev pub front_text : List Segment → List ℕ
front_text segments =
    codes "<path fill=\"#fff\" stroke=\"#888\" d=\"M0-14v20h800v-20z\"/>\n<g fill=\"#cfe2f6\" stroke=\"#467\">\n"
    ++ each_where (is_of Front) path_text segments
    ++ codes "</g>\n"

-- the segments at the back; a straight line has none
abbrev pub back_text : LineKind → List Segment → List ℕ
back_text Straight segments = []
back_text U segments =
    codes "<g fill=\"#76a5d8\" stroke=\"#000\">\n"
    ++ each_where (is_of Back) path_text segments
    ++ codes "</g>\n"

-- the number of a task in the middle of its segment
abbrev pub label_parts : Segment → List (List ℕ)
label_parts s =
    codes "<text x=\"" ∷ decimal (s.x + s.width / 2) ∷ codes "\">" ∷ decimal (number_of s) ∷ codes "</text>\n" ∷ []

abbrev pub label_text : Segment → List ℕ
label_text s = text_of (label_parts s)

-- the numbers of the tasks that aren't narrow
abbrev pub labels_text : List Segment → List ℕ
labels_text segments =
    codes "<g text-anchor=\"middle\" pointer-events=\"none\">\n"
    ++ each_where (λ s. not (is_narrow s)) label_text segments
    ++ codes "</g>\n"

-- the station, the sum of its times, and what is left of the cycle
abbrev pub columns_parts : Figures → ℕ → ℕ → List (List ℕ)
columns_parts f station sum =
    codes "<text x=\"-8\">" ∷ decimal station ∷ codes "</text><text x=\"" ∷ decimal (800 + f.column) ∷ codes
    "\">" ∷ decimal sum
    ∷ codes "</text><text x=\"" ∷ decimal (800 + 2 * f.column) ∷ codes "\">" ∷ decimal (f.cycle - sum) ∷ codes
    "</text>\n" ∷ []

abbrev pub columns_text : Figures → ℕ → ℕ → List ℕ
columns_text f station sum = text_of (columns_parts f station sum)

-- the word for a station with the greatest sum
abbrev pub slowest_parts : Figures → List (List ℕ)
slowest_parts f = codes "<text x=\"" ∷ decimal (860 + 2 * f.column) ∷ codes "\">slowest</text>\n" ∷ []

abbrev pub slowest_text : Figures → ℕ → List ℕ
slowest_text f sum = cond (nat_eq sum f.longest) (text_of (slowest_parts f)) []

-- the note, where there is one
abbrev pub margin_parts : Figures → List ℕ → List (List ℕ)
margin_parts f note =
    codes "<text x=\"" ∷ decimal (872 + 2 * f.column) ∷ codes "\" text-anchor=\"start\">" ∷ note ∷ codes
    "</text>\n" ∷ []

abbrev pub margin_text : Figures → List ℕ → List ℕ
margin_text f note = cond (nat_eq (length note) 0) [] (text_of (margin_parts f note))

-- The row of a station with this sum, these segments and this note.
abbrev pub row_text : Figures → ℕ → ℕ → List Segment → List ℕ → List ℕ
row_text f station sum segments note =
    opening_text f station sum segments
    ++ front_text segments
    ++ back_text f.kind segments
    ++ labels_text segments
    ++ columns_text f station sum
    ++ slowest_text f sum
    ++ margin_text f note
    ++ codes "</g>\n"
