use Rattle.std.proofs.Common.{string_bytes}
use Rattle.line_drawing.specs.Drawing.{bounds_text, headings_text, legend_text, notes_text, top_text, totals_text}
use Rattle.line_drawing.proofs.Chains.{six}
use Rattle.line_drawing.proofs.drawing.push_above.Goals as goal

pub returns : goal.returns
returns c =
    let f = c.args.figures.now in
    six (string_bytes c.args.text.now) (top_text f) (bounds_text c.args.ask c.args.lower c.args.upper) (totals_text f)
    (legend_text f.kind) (notes_text f) (headings_text f)
    c.in_ok-push_top.ensures c.in_ok-push_bounds.ensures c.in_ok-push_totals.ensures c.in_ok-push_legend.ensures
    c.in_ok-push_notes.ensures c.in_ok-push_headings.ensures
