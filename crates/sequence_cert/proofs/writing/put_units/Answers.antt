use Rattle.std.proofs.Common.{ap, sym, ◌∙◌, map, refl}
use Rattle.std.specs.Prelude.{codes}
use Rattle.cert_lines.specs.Rows.{rows_text, line_text, keyed}
use Rattle.cert_text.proofs.PutTexts.{puts, puts_as, ◌▹◌}
use Rattle.cert_text.proofs.PutLines.{next_line, all_lines}
use Rattle.sequence_cert.specs.SequenceText.{unit_row}
use Rattle.sequence_cert.proofs.writing.put_units.Goals as goal

pub loop-model-preserved : goal.loop-model-preserved
loop-model-preserved g c =
    puts _ _ _ _ _ _ _ c.loop-model.invariant c.put_unit.ensures
    (next_line unit_row c.as_slice-model-items.result.now c.loop-model.model-index _ _ c.loop-model-test.true refl)

pub returns : goal.returns
returns g c =
    puts_as _ _ _ _ _ c.put_keyed.ensures (ap (λ n. line_text (keyed (codes "units") n)) (sym c.len.ensures))
    ▹ puts_as _ _ _ _ _ c.loop-model.invariant
    (ap (λ xs. rows_text (map unit_row xs)) (sym c.as_slice-model-items.ensures)
    ∙ all_lines unit_row c.as_slice-model-items.result.now c.loop-model.model-index c.loop-model-test.false)
