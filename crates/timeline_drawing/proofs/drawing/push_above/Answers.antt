use Rattle.std.proofs.Common.{string_bytes}
use Rattle.timeline_drawing.specs.Drawing.{ground_text, head_text, headings_text, legend_text, size_text, totals_text}
use Rattle.timeline_drawing.proofs.Chains.{seven}
use Rattle.timeline_drawing.proofs.drawing.push_above.Goals as goal

pub returns : goal.returns
returns c =
    let f = c.args.figures.now in
    seven (string_bytes c.args.text.now) (size_text f) (head_text f) (ground_text f) (head_text f) (totals_text f)
    legend_text (headings_text f)
    c.in_ok-push_size.ensures c.in_ok-push_head.ensures c.in_ok-push_ground.ensures c.in_ok-push_head-2.ensures
    c.in_ok-push_totals.ensures c.in_ok-push_legend.ensures c.in_ok-push_headings.ensures
