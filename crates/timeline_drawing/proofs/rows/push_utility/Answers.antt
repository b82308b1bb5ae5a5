use Rattle.std.proofs.Common.{codes, string_bytes}
use Rattle.timeline_drawing.specs.Parts.{text_of}
use Rattle.timeline_drawing.specs.Visits.{row_utility}
use Rattle.timeline_drawing.specs.Rows.{each_where, has_utility, red_text, sum_parts}
use Rattle.timeline_drawing.proofs.Chains.{three}
use Rattle.timeline_drawing.proofs.RowFacts.{with_sum}
use Rattle.timeline_drawing.proofs.rows.push_utility.Goals as goal

pub returns : goal.returns
returns c =
    let f = c.args.figures.now in
    three (string_bytes c.args.text.now) (codes "<g fill=\"#d00\">\n")
    (each_where has_utility (red_text f c.args.name.now) c.args.row.now)
    (text_of (sum_parts f (row_utility c.args.row.now)))
    c.in_ok-push_str.ensures.bytes c.in_ok-push_reds.ensures (with_sum f _ c.requires.sum c.in_ok-push_sum.ensures)
