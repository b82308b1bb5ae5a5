use Rattle.std.proofs.Common.{◌≡◌, ◌++◌, drop, string_bytes}
use Rattle.line_drawing.specs.Rows.{each_where, is_of}
use Rattle.named_drawing.specs.NamedRows.{path_text}
use Rattle.named_drawing.proofs.named_rows.push_paths.Given as goal

abbrev pub invariant-loop-segment : goal.invariant-loop-segment
invariant-loop-segment l =
    string_bytes l.text ++ each_where (is_of l.side) (path_text l.names) (drop l.segment-index l.segments)
    ≡ string_bytes l.fn.text ++ each_where (is_of l.side) (path_text l.names) l.segments
