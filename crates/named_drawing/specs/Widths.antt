-- How wide a text is, and at which of its blanks it is parted best.
use Rattle.std.specs.Prelude.{ℕ, zero, suc, ◌+◌, Bool, ◌&&◌, ◌||◌, ◌==◌, nat_eq, nat_le, nat_lt, cond, max, List}
use Rattle.std.specs.Prelude.{length}
use Rattle.std.specs.Prelude.{take, drop, slice_index, codes, Option, Some, None}
use Rattle.std.specs.List.{list_any, sum_by}

-- whether a byte is one of these
abbrev pub is_among : List ℕ → ℕ → Bool
is_among bytes b = list_any (λ y. y == b) bytes

-- how wide a byte is: nothing where it goes on with a character, 12 for the wide characters, 4 for the narrow ones
abbrev pub byte_width : ℕ → ℕ
byte_width b =
    cond (nat_le 128 b && nat_le b 191) 0
    (cond (nat_le 225 b || is_among (codes "%@MWm") b) 12 (cond (is_among (codes " Ifijlrt!'(),-./:[\\]`{|}") b) 4 8))

-- how wide a text is
abbrev pub width : List ℕ → ℕ
width text = sum_by byte_width text

-- whether a text fits into a segment of this width
abbrev pub fits : ℕ → List ℕ → Bool
fits room text = nat_le (width text + 4) room

-- the parts of a text around one of its bytes
abbrev pub part_before : List ℕ → ℕ → List ℕ
part_before text at = take at text

abbrev pub part_behind : List ℕ → ℕ → List ℕ
part_behind text at = drop (at + 1) text

-- how wide the wider one of the two parts is
abbrev pub wider_part : List ℕ → ℕ → ℕ
wider_part text at = max (width (part_before text at)) (width (part_behind text at))

-- whether a blank stands at a place
abbrev pub is_blank_at : List ℕ → ℕ → Bool
is_blank_at text at = nat_eq (slice_index text at) 32

-- of a place to part a text at and a later one: the later one only if a blank stands there, and the wider part is less
-- wide then
abbrev pub better_place : List ℕ → Option ℕ → ℕ → Option ℕ
better_place text None later = cond (is_blank_at text later) (Some later) None
better_place text (Some at) later =
    cond (is_blank_at text later && nat_lt (wider_part text later) (wider_part text at)) (Some later) (Some at)

-- the best place among the first n
abbrev pub best_below : List ℕ → ℕ → Option ℕ
best_below text zero = None
best_below text (suc n) = better_place text (best_below text n) n

-- The blank around which the wider part is least wide, the first of such.
abbrev pub best_blank : List ℕ → Option ℕ
best_blank text = best_below text (length text)
