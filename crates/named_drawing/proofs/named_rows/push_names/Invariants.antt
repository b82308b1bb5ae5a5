use Rattle.std.proofs.Common.{◌≡◌, ◌++◌, drop, string_bytes, None}
use Rattle.named_drawing.specs.NamedRows.{names_text}
use Rattle.named_drawing.proofs.named_rows.push_names.Given as goal

abbrev pub invariant-loop-segment : goal.invariant-loop-segment
invariant-loop-segment l = string_bytes l.text ++ names_text l.names l.before (drop l.segment-index l.segments)
    ≡ string_bytes l.fn.text ++ names_text l.names None l.segments
