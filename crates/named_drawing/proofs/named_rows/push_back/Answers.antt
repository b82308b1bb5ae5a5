use Rattle.std.proofs.Common.{◌++◌, ◌∙◌, ap, sym, codes, string_bytes}
use Rattle.line_rules.specs.declared.types.Side.TheVariants.{Back}
use Rattle.line_drawing.specs.Rows.{each_where, is_of}
use Rattle.line_drawing.proofs.Chains.{three}
use Rattle.named_drawing.specs.NamedRows.{back_text, path_text}
use Rattle.named_drawing.proofs.named_rows.push_back.Goals as goal

pub returns-in_ok-push_str-in-U-2 : goal.returns-in_ok-push_str-in-U-2
returns-in_ok-push_str-in-U-2 c =
    three (string_bytes c.args.text.now) (codes "<g fill=\"#76a5d8\" stroke=\"#000\">\n")
    (each_where (is_of Back) (path_text c.args.names.now) c.args.segments.now) (codes "</g>\n")
    c.in_ok-push_str-in-U.ensures.bytes c.in_ok-push_paths-in-U.ensures c.in_ok-push_str-in-U-2.ensures.bytes
    ∙ ap (λ k. string_bytes c.args.text.now ++ back_text k c.args.names.now c.args.segments.now) (sym c.in-U.is)
