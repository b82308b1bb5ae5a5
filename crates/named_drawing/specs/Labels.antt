-- What is written into the segment of a task, and of which tasks nothing is.
use Rattle.std.specs.Prelude.{ℕ, Bool, true, false, ◌&&◌, cond, List, map, filter, Option, Some, None}
use Rattle.task_names.specs.TaskNames.{name_at}
use Rattle.line_drawing.specs.Notes.{is_narrow, number_of, shortened}
use Rattle.line_drawing.specs.declared.segments.Segment.{Segment}
use Rattle.named_drawing.specs.Widths.{best_blank, fits, part_before, part_behind}
use Rattle.named_drawing.specs.declared.labels.Label.{Label}
use Rattle.named_drawing.specs.declared.labels.Label.TheVariants.{Name, Parts, Number, Nothing}

-- the number, where it fits
abbrev pub number_label : Segment → Label
number_label s = cond (is_narrow s) Nothing Number

-- whether both parts of a name fit
abbrev pub parts_fit : ℕ → List ℕ → ℕ → Bool
parts_fit room name at = fits room (part_before name at) && fits room (part_behind name at)

-- the parts around a blank, where they fit, else the number
abbrev pub parts_label : List ℕ → Segment → Option ℕ → Label
parts_label name s None = number_label s
parts_label name s (Some at) = cond (parts_fit s.width name at) (Parts at) (number_label s)

-- The label of a segment: the first one that fits of its name, its name in two parts, and its number; or nothing.
abbrev pub label_of : List ℕ → Segment → Label
label_of name s = cond (fits s.width name) Name (parts_label name s (best_blank name))

-- whether a segment stays without a label
abbrev pub is_nothing : Label → Bool
is_nothing Name = false
is_nothing (Parts at) = false
is_nothing Number = false
is_nothing Nothing = true

abbrev pub is_unlabelled : List (List ℕ) → Segment → Bool
is_unlabelled names s = is_nothing (label_of (name_at names s.task) s)

-- the numbers of the tasks without a label, in the order of segments
abbrev pub unlabelled : List (List ℕ) → List Segment → List ℕ
unlabelled names segments = map number_of (filter (is_unlabelled names) segments)

-- the note of a station: its tasks without a label; nothing where each has one
abbrev pub named_note : List (List ℕ) → List Segment → List ℕ
named_note names segments = shortened (unlabelled names segments)
