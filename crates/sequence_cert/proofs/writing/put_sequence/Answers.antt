use Rattle.std.proofs.Common.{◌∙◌, ◌++◌, ◌∷◌, [], ap}
use Rattle.std.specs.Prelude.{codes}
use Rattle.cert_lines.specs.Rows.{rows_text, line_text, fixed, row_text}
use Rattle.cert_lines.proofs.TextParts.{rows_append}
use Rattle.cert_text.proofs.PutTexts.{puts_as, ◌▹◌}
use Rattle.sequence_cert.specs.SequenceText.{first_line, size_rows, charges_rows, bound_rows, unit_rows, entry_rows}
use Rattle.sequence_cert.specs.SequenceText.{frame_rows, list_rows, sequence_rows}
use Rattle.sequence_cert.proofs.writing.put_sequence.Goals as goal

pub returns : goal.returns
unfolding row_text sequence_rows
returns g c =
    let cert = c.args.cert.now in
    let sizes = size_rows cert.models cert.stations in
    let charges = charges_rows cert.charges in
    let bounds = bound_rows cert.lower cert.upper in
    let lists = list_rows cert.sequence cert.entries cert.frames in
    puts_as _ _ _ _ _
    (c.put_first.ensures ▹ c.put_sizes.ensures ▹ c.put_charges.ensures ▹ c.put_bounds.ensures ▹ c.put_units.ensures
    ▹ c.put_entries.ensures ▹ c.put_frames.ensures ▹ c.put_text.ensures)
    (ap (λ t. line_text (fixed (first_line cert.charges)) ++ t)
    (rows_append sizes (charges ++ (bounds ++ lists)) ∙ ap (λ t. rows_text sizes ++ t)
    (rows_append charges (bounds ++ lists) ∙ ap (λ t. rows_text charges ++ t)
    (rows_append bounds lists ∙ ap (λ t. rows_text bounds ++ t)
    (rows_append (unit_rows cert.sequence)
    (entry_rows cert.entries ++ (frame_rows cert.frames ++ fixed (codes "end") ∷ []))
    ∙ ap (λ t. rows_text (unit_rows cert.sequence) ++ t)
    (rows_append (entry_rows cert.entries) (frame_rows cert.frames ++ fixed (codes "end") ∷ [])
    ∙ ap (λ t. rows_text (entry_rows cert.entries) ++ t)
    (rows_append (frame_rows cert.frames) (fixed (codes "end") ∷ []))))))))
