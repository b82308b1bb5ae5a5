use Rattle.std.proofs.Common.{◌≡◌, ◌++◌, drop, string_bytes}
use Rattle.line_drawing.specs.Rows.{each_where, is_of, path_text}
use Rattle.line_drawing.proofs.rows.push_paths.Given as goal

abbrev pub invariant-loop-segment : goal.invariant-loop-segment
invariant-loop-segment l = string_bytes l.text ++ each_where (is_of l.side) path_text (drop l.segment-index l.segments)
    ≡ string_bytes l.fn.text ++ each_where (is_of l.side) path_text l.segments
