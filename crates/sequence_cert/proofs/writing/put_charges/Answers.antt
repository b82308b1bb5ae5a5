use Rattle.std.proofs.Common.{◌≡◌, ℕ, List, [], ◌∷◌, ◌++◌, ap, sym, ◌∙◌}
use Rattle.std.specs.Prelude.{codes}
use Rattle.std.proofs.lemmas.List.{append-nil}
use Rattle.cert_lines.specs.Numbers.{cites_text}
use Rattle.cert_lines.specs.Rows.{rows_text, row_text}
use Rattle.cert_text.proofs.PutTexts.{nothing, puts_as, ◌▹◌}
use Rattle.sequence_cert.specs.SequenceText.{charges_row, charges_rows}
use Rattle.sequence_cert.proofs.writing.put_charges.Goals as goal

charges_spelled : (charges : List ℕ) → rows_text (charges_row charges ∷ [])
    ≡ codes "charges " ++ (cites_text charges ++ 10 ∷ [])
unfolding row_text
charges_spelled charges = append-nil _

pub returns-in-None : goal.returns-in-None
returns-in-None g c = nothing _ _ _ (ap (λ x. rows_text (charges_rows x)) c.in-None.is)

pub returns-in-Some : goal.returns-in-Some
returns-in-Some g c =
    puts_as _ _ _ _ _
    (c.put_text.ensures ▹ puts_as _ _ _ _ _ c.put_cites.ensures (ap cites_text (sym c.as_slice.ensures))
    ▹ c.put.ensures)
    (ap (λ x. rows_text (charges_rows x)) c.in-Some.is ∙ charges_spelled c.in-Some.charges)
