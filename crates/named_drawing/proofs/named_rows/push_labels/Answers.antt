use Rattle.std.proofs.Common.{codes, string_bytes}
use Rattle.line_drawing.proofs.Chains.{three}
use Rattle.named_drawing.specs.NamedRows.{label_lines}
use Rattle.named_drawing.proofs.named_rows.push_labels.Goals as goal

pub returns : goal.returns
returns c =
    three (string_bytes c.args.text.now) (codes "<g text-anchor=\"middle\" pointer-events=\"none\">\n")
    (label_lines c.args.names.now c.args.segments.now) (codes "</g>\n")
    c.in_ok-push_str.ensures.bytes c.in_ok-push_label_lines.ensures c.in_ok-push_str-2.ensures.bytes
