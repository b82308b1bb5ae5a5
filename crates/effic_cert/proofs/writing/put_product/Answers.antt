use Rattle.std.proofs.Common.{◌∙◌, ◌++◌, ◌∷◌, [], ap, sym}
use Rattle.std.specs.Prelude.{codes}
use Rattle.cert_lines.specs.Rows.{rows_text, line_text, fixed, row_text}
use Rattle.cert_text.specs.Cert.{list_rows}
use Rattle.cert_text.proofs.PutTexts.{puts_as, ◌▹◌}
use Rattle.effic_cert.specs.Product.{asked_rows, bound_rows, balance_rows, product_rows, least_version}
use Rattle.effic_cert.specs.inner.Parts.{version_row}
use Rattle.effic_cert.proofs.writing.put_product.Goals as goal
use Rattle.cert_lines.proofs.TextParts.{rows_append}

pub returns : goal.returns
unfolding row_text product_rows
returns g c =
    puts_as _ _ _ _ _ (puts_as _ _ _ _ _ c.put_first.ensures
    (ap (λ v. line_text (version_row v)) (sym c.version_of.ensures)) ▹ c.put_asked.ensures ▹ c.put_bounds.ensures ▹
    c.put_balance.ensures
    ▹ c.put_list.ensures ▹ c.put_text.ensures)
    (ap (λ t. line_text (version_row (least_version c.args.cert.now.entries)) ++ t)
    (rows_append (asked_rows c.args.cert.now)
    (bound_rows c.args.cert.now
    ++ (balance_rows c.args.cert.now ++
    (list_rows c.args.cert.now.tasks c.args.cert.now.entries c.args.cert.now.trail ++ fixed (codes "end") ∷ [])))
    ∙ ap (λ t. rows_text (asked_rows c.args.cert.now) ++ t)
    (rows_append (bound_rows c.args.cert.now)
    (balance_rows c.args.cert.now
    ++ (list_rows c.args.cert.now.tasks c.args.cert.now.entries c.args.cert.now.trail ++ fixed (codes "end") ∷ []))
    ∙ ap (λ t. rows_text (bound_rows c.args.cert.now) ++ t)
    (rows_append (balance_rows c.args.cert.now)
    (list_rows c.args.cert.now.tasks c.args.cert.now.entries c.args.cert.now.trail ++ fixed (codes "end") ∷ [])
    ∙ ap (λ t. rows_text (balance_rows c.args.cert.now) ++ t)
    (rows_append (list_rows c.args.cert.now.tasks c.args.cert.now.entries c.args.cert.now.trail)
    (fixed (codes "end") ∷ []))))))
