use Rattle.std.proofs.Common.{ap, ◌∙◌, ◌++◌, ◌∷◌, [], arith}
use Rattle.std.specs.Prelude.{codes}
use Rattle.cert_lines.specs.Rows.{rows_text, line_text, keyed, fixed, row_text}
use Rattle.cert_text.specs.Cert.{claim_rows, bounds_rows, list_rows}
use Rattle.cert_text.proofs.PutTexts.{puts_as, ◌▹◌}
use Rattle.cert_text.proofs.lines.put_claim.Goals as goal
use Rattle.cert_lines.proofs.TextParts.{rows_append}

pub returns-in-TooLong : goal.returns-in-TooLong
unfolding row_text
returns-in-TooLong g c =
    puts_as _ _ _ _ _ (puts_as _ _ _ _ _ c.put_keyed.ensures
    (ap (λ n. line_text (keyed (codes "infeasible") n)) (omega (arith, c.from.ensures))) ▹ c.put_text.ensures)
    (ap (λ x. rows_text (claim_rows c.args.kind c.args.tasks x)) c.in-TooLong.is)

pub returns-in-Bounds : goal.returns-in-Bounds
unfolding row_text
returns-in-Bounds g c =
    puts_as _ _ _ _ _ (c.put_bounds.ensures ▹ c.put_list.ensures ▹ c.put_text-in-Bounds.ensures)
    (ap (λ x. rows_text (claim_rows c.args.kind c.args.tasks x)) c.in-Bounds.is
    ∙ rows_append (bounds_rows c.args.kind c.in-Bounds.lower c.in-Bounds.upper c.in-Bounds.balance)
    (list_rows c.args.tasks c.in-Bounds.entries c.in-Bounds.trail ++ fixed (codes "end") ∷ [])
    ∙ ap (λ t. rows_text (bounds_rows c.args.kind c.in-Bounds.lower c.in-Bounds.upper c.in-Bounds.balance) ++ t)
    (rows_append (list_rows c.args.tasks c.in-Bounds.entries c.in-Bounds.trail) (fixed (codes "end") ∷ [])))
