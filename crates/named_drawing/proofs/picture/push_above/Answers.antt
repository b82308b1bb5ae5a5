use Rattle.std.proofs.Common.{string_bytes}
use Rattle.line_drawing.specs.Drawing.{bounds_text, headings_text, legend_text, notes_text, totals_text}
use Rattle.line_drawing.proofs.Chains.{six}
use Rattle.named_drawing.specs.NamedDrawing.{top_text}
use Rattle.named_drawing.proofs.picture.push_above.Goals as goal

pub returns : goal.returns
returns c =
    let p = c.args.page.now in
    six (string_bytes c.args.text.now) (top_text p) (bounds_text c.args.ask c.args.lower c.args.upper)
    (totals_text p.figures) (legend_text p.figures.kind) (notes_text p.figures) (headings_text p.figures)
    c.in_ok-push_top.ensures c.in_ok-push_bounds.ensures c.in_ok-push_totals.ensures c.in_ok-push_legend.ensures
    c.in_ok-push_notes.ensures c.in_ok-push_headings.ensures
