use Rattle.std.proofs.Common.{◌≡◌, ◌++◌, drop, string_bytes}
use Rattle.line_drawing.specs.Rows.{numbers_text}
use Rattle.line_drawing.proofs.rows.push_numbers.Given as goal

abbrev pub invariant-loop-segment : goal.invariant-loop-segment
invariant-loop-segment l = string_bytes l.text ++ numbers_text l.side (drop l.segment-index l.segments)
    ≡ string_bytes l.fn.text ++ numbers_text l.side l.segments
