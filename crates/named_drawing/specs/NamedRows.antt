-- The row of a station, line by line, with the names of its tasks.
use Rattle.std.specs.Prelude.{ℕ, ◌+◌, ◌*◌, ◌/◌, List, [], ◌∷◌, ◌++◌, codes, decimal, Option, Some, None}
use Rattle.task_names.specs.TaskNames.{name_at}
use Rattle.line_rules.specs.declared.types.LineKind.{LineKind}
use Rattle.line_rules.specs.declared.types.LineKind.TheVariants.{Straight, U}
use Rattle.line_rules.specs.declared.types.Side.{Side}
use Rattle.line_rules.specs.declared.types.Side.TheVariants.{Front, Back}
use Rattle.line_drawing.specs.Parts.{text_of}
use Rattle.line_drawing.specs.Notes.{number_of}
use Rattle.line_drawing.specs.Rows.{columns_text, each_where, is_of, margin_text, slowest_text, times_text}
use Rattle.line_drawing.specs.declared.segments.Segment.{Segment}
use Rattle.line_drawing.specs.declared.figures.Figures.{Figures}
use Rattle.named_drawing.specs.Widths.{part_before, part_behind}
use Rattle.named_drawing.specs.Escapes.{escaped}
use Rattle.named_drawing.specs.Labels.{label_of}
use Rattle.named_drawing.specs.declared.labels.Label.{Label}
use Rattle.named_drawing.specs.declared.labels.Label.TheVariants.{Name, Parts, Number, Nothing}

-- the name of a segment's task, as it stands in the text
abbrev pub shown_name : List (List ℕ) → Segment → List ℕ
shown_name names s = escaped (name_at names s.task)

-- what stands before a name: a blank, behind a semicolon where a name stands before it, and the word for the first one
-- at the back
abbrev pub lead : Option Side → Side → List ℕ
lead None Front = codes " "
lead None Back = codes " back: "
lead (Some Front) Front = codes "; "
lead (Some Front) Back = codes "; back: "
lead (Some Back) side = codes "; "

-- the names of tasks, behind one of this side
abbrev pub names_text : List (List ℕ) → Option Side → List Segment → List ℕ
names_text names before [] = []
names_text names before (s ∷ ss) = lead before s.side ++ shown_name names s ++ names_text names (Some s.side) ss

-- the heading of a row: what its station does, in words
abbrev pub place_parts : ℕ → List (List ℕ)
place_parts station =
    codes "<g transform=\"translate(64 " ∷ decimal (76 + 36 * station) ∷ codes ")\"><title>station " ∷ decimal
    station ∷ codes ":" ∷ []

abbrev pub place_text : ℕ → List ℕ
place_text station = text_of (place_parts station)

abbrev pub opening_text : Figures → List (List ℕ) → ℕ → ℕ → List Segment → List ℕ
opening_text f names station sum segments = place_text station ++ names_text names None segments ++ times_text f sum

-- the segment of a task
abbrev pub shape_parts : Segment → List (List ℕ)
shape_parts s =
    codes "<path d=\"M" ∷ decimal s.x ∷ codes "-20v32h" ∷ decimal s.width ∷ codes "v-32z\"><title>"
    ∷ decimal (number_of s) ∷ codes " " ∷ []

abbrev pub time_parts : Segment → List (List ℕ)
time_parts s = codes ", time " ∷ decimal s.time ∷ codes "</title></path>\n" ∷ []

abbrev pub path_text : List (List ℕ) → Segment → List ℕ
path_text names s = text_of (shape_parts s) ++ shown_name names s ++ text_of (time_parts s)

-- the frame of a row, and the segments in front in it
abbrev pub front_text : List (List ℕ) → List Segment → List ℕ
front_text names segments =
    codes "<path fill=\"#fff\" stroke=\"#888\" d=\"M0-20v32h800v-32z\"/>\n<g fill=\"#cfe2f6\" stroke=\"#467\">\n"
    ++ each_where (is_of Front) (path_text names) segments
    ++ codes "</g>\n"

-- the segments at the back; a straight line has none
abbrev pub back_text : LineKind → List (List ℕ) → List Segment → List ℕ
back_text Straight names segments = []
back_text U names segments =
    codes "<g fill=\"#76a5d8\" stroke=\"#000\">\n"
    ++ each_where (is_of Back) (path_text names) segments
    ++ codes "</g>\n"

-- the middle of a segment
abbrev pub middle_of : Segment → ℕ
middle_of s = s.x + s.width / 2

-- the name in the middle of its segment
abbrev pub name_parts : Segment → List (List ℕ)
name_parts s = codes "<text x=\"" ∷ decimal (middle_of s) ∷ codes "\">" ∷ []

abbrev pub name_text : List ℕ → Segment → List ℕ
name_text name s = text_of (name_parts s) ++ escaped name ++ codes "</text>\n"

-- its two parts, one above the other
abbrev pub above_parts : Segment → List (List ℕ)
above_parts s = codes "<text x=\"" ∷ decimal (middle_of s) ∷ codes "\" y=\"-7\">" ∷ []

abbrev pub below_parts : Segment → List (List ℕ)
below_parts s = codes "</text><text x=\"" ∷ decimal (middle_of s) ∷ codes "\" y=\"7\">" ∷ []

abbrev pub parts_text : List ℕ → Segment → ℕ → List ℕ
parts_text name s at =
    text_of (above_parts s)
    ++ escaped (part_before name at)
    ++ text_of (below_parts s)
    ++ escaped (part_behind name at)
    ++ codes "</text>\n"

-- the number of the task
abbrev pub number_parts : Segment → List (List ℕ)
number_parts s =
    codes "<text x=\"" ∷ decimal (middle_of s) ∷ codes "\" font-style=\"italic\">" ∷ decimal (number_of s) ∷ codes
    "</text>\n" ∷ []

-- the line of a label, where there is one
abbrev pub label_text : List ℕ → Segment → Label → List ℕ
label_text name s Name = name_text name s
label_text name s (Parts at) = parts_text name s at
label_text name s Number = text_of (number_parts s)
label_text name s Nothing = []

abbrev pub label_line : List (List ℕ) → Segment → List ℕ
label_line names s = label_text (name_at names s.task) s (label_of (name_at names s.task) s)

-- the labels of all segments
abbrev pub label_lines : List (List ℕ) → List Segment → List ℕ
label_lines names [] = []
label_lines names (s ∷ ss) = label_line names s ++ label_lines names ss

abbrev pub labels_text : List (List ℕ) → List Segment → List ℕ
labels_text names segments =
    codes "<g text-anchor=\"middle\" pointer-events=\"none\">\n" ++ label_lines names segments ++ codes "</g>\n"

-- The row of a station with this sum, these segments and this note.
abbrev pub named_row : Figures → List (List ℕ) → ℕ → ℕ → List Segment → List ℕ → List ℕ
named_row f names station sum segments note =
    opening_text f names station sum segments
    ++ front_text names segments
    ++ back_text f.kind names segments
    ++ labels_text names segments
    ++ columns_text f station sum
    ++ slowest_text f sum
    ++ margin_text f note
    ++ codes "</g>\n"
