use Rattle.std.proofs.Common.{codes, string_bytes}
use Rattle.line_drawing.specs.Rows.{columns_text, margin_text, slowest_text}
use Rattle.line_drawing.proofs.Chains.{eight}
use Rattle.named_drawing.specs.NamedRows.{back_text, front_text, labels_text, opening_text}
use Rattle.named_drawing.proofs.named_rows.push_named_row.Goals as goal

pub returns : goal.returns
returns c =
    let f = c.args.figures.now in
    let names = c.args.names.now in
    let segments = c.args.segments.now in
    eight (string_bytes c.args.text.now) (opening_text f names c.args.station c.args.sum segments)
    (front_text names segments)
    (back_text f.kind names segments) (labels_text names segments)
    (columns_text f c.args.station c.args.sum) (slowest_text f c.args.sum) (margin_text f c.args.note.now)
    (codes "</g>\n")
    c.in_ok-push_opening.ensures c.in_ok-push_front.ensures c.in_ok-push_back.ensures c.in_ok-push_labels.ensures
    c.in_ok-push_columns.ensures
    c.in_ok-push_slowest.ensures c.in_ok-push_margin.ensures c.in_ok-push_str.ensures.bytes
