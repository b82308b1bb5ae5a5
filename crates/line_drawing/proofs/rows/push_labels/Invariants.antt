use Rattle.std.proofs.Common.{◌≡◌, ◌++◌, drop, string_bytes, not, codes}
use Rattle.line_drawing.specs.Notes.{is_narrow}
use Rattle.line_drawing.specs.Rows.{each_where, label_text}
use Rattle.line_drawing.proofs.rows.push_labels.Given as goal

abbrev pub invariant-loop-segment : goal.invariant-loop-segment
invariant-loop-segment l =
    string_bytes l.text ++ each_where (λ s. not (is_narrow s)) label_text (drop l.segment-index l.segments)
    ≡ string_bytes l.fn.text ++ codes "<g text-anchor=\"middle\" pointer-events=\"none\">\n"
    ++ each_where (λ s. not (is_narrow s)) label_text l.segments
