use Rattle.std.proofs.Common.{◌≡◌, ◌++◌, drop, string_bytes}
use Rattle.named_drawing.specs.NamedRows.{label_lines}
use Rattle.named_drawing.proofs.named_rows.push_label_lines.Given as goal

abbrev pub invariant-loop-segment : goal.invariant-loop-segment
invariant-loop-segment l = string_bytes l.text ++ label_lines l.names (drop l.segment-index l.segments)
    ≡ string_bytes l.fn.text ++ label_lines l.names l.segments
