-- The pass over a text that finds its best blank.
use Rattle.std.specs.Prelude.{ℕ, nat_eq, nat_le, cond, List, Option, Some, None}
use Rattle.named_drawing.specs.Widths.{wider_part}
use Rattle.named_drawing.specs.declared.widths.Split.{Split}

-- a place and the width of the wider part there
abbrev pub measured : List ℕ → Option ℕ → Option Split
measured text None = None
measured text (Some at) = Some (record { at = at; wider = wider_part text at })

-- the one of two splits that leaves the wider part less wide, the first of such
abbrev pub narrower : Option Split → Split → Split
narrower None next = next
narrower (Some best) next = cond (nat_le best.wider next.wider) best next

-- the best split so far, with one more byte gone over
abbrev pub turned : Option Split → ℕ → Split → Option Split
turned best byte next = cond (nat_eq byte 32) (Some (narrower best next)) best
