-- The tasks whose numbers don't fit into their segments, and what is noted of them beside the row.
use Rattle.std.specs.Prelude.{ℕ, ◌+◌, ◌*◌, Bool, nat_lt, cond, List, [], ◌∷◌, ◌++◌, length, map, filter, codes, decimal}
use Rattle.line_drawing.specs.declared.segments.Segment.{Segment}

-- the number of a segment's task
abbrev pub number_of : Segment → ℕ
number_of s = s.task + 1

-- a task number of k digits is narrow where the width is below 8k + 2
abbrev pub is_narrow : Segment → Bool
is_narrow s = nat_lt s.width (8 * length (decimal (number_of s)) + 2)

-- the numbers of the narrow tasks, in the order of segments
abbrev pub narrow_numbers : List Segment → List ℕ
narrow_numbers segments = map number_of (filter is_narrow segments)

-- numbers, each after a blank
abbrev pub blanked : List ℕ → List ℕ
blanked [] = []
blanked (n ∷ ns) = codes " " ++ decimal n ++ blanked ns

-- numbers with one blank between
abbrev pub joined : List ℕ → List ℕ
joined [] = []
joined (n ∷ ns) = decimal n ++ blanked ns

-- the numbers with one blank between, or where that exceeds 40 bytes their count and a word
abbrev pub shortened : List ℕ → List ℕ
shortened ns = cond (nat_lt 40 (length (joined ns))) (decimal (length ns) ++ codes " tasks") (joined ns)

-- the note of a station: its narrow tasks; nothing where there are none
abbrev pub note_of : List Segment → List ℕ
note_of segments = shortened (narrow_numbers segments)
