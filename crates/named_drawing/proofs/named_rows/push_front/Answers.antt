use Rattle.std.proofs.Common.{codes, string_bytes}
use Rattle.line_rules.specs.declared.types.Side.TheVariants.{Front}
use Rattle.line_drawing.specs.Rows.{each_where, is_of}
use Rattle.line_drawing.proofs.Chains.{three}
use Rattle.named_drawing.specs.NamedRows.{path_text}
use Rattle.named_drawing.proofs.named_rows.push_front.Goals as goal

pub returns : goal.returns
returns c =
    three (string_bytes c.args.text.now)
    (codes "<path fill=\"#fff\" stroke=\"#888\" d=\"M0-20v32h800v-32z\"/>\n<g fill=\"#cfe2f6\" stroke=\"#467\">\n")
    (each_where (is_of Front) (path_text c.args.names.now) c.args.segments.now) (codes "</g>\n")
    c.in_ok-push_str.ensures.bytes c.in_ok-push_paths.ensures c.in_ok-push_str-2.ensures.bytes
