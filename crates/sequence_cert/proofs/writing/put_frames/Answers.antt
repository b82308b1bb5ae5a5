use Rattle.std.proofs.Common.{ap, sym, ◌∙◌, map}
use Rattle.std.specs.Prelude.{codes}
use Rattle.cert_lines.specs.Rows.{rows_text, line_text, keyed}
use Rattle.cert_text.proofs.PutTexts.{puts, puts_as, ◌▹◌}
use Rattle.cert_text.proofs.PutLines.{next_line, all_lines}
use Rattle.sequence_cert.specs.SequenceText.{frame_row}
use Rattle.sequence_cert.proofs.writing.put_frames.Goals as goal

pub loop-frame-preserved : goal.loop-frame-preserved
loop-frame-preserved g c =
    puts _ _ _ _ _ _ _ c.loop-frame.invariant c.put_frame.ensures
    (next_line frame_row c.as_slice-frame-items.result.now c.loop-frame.frame-index c.frame-item.result
    (frame_row c.frame-item.result) c.loop-frame-test.true
    (ap frame_row (sym c.frame-item.is)))

pub returns : goal.returns
returns g c =
    puts_as _ _ _ _ _ c.put_keyed.ensures (ap (λ n. line_text (keyed (codes "trail") n)) (sym c.len.ensures))
    ▹ puts_as _ _ _ _ _ c.loop-frame.invariant
    (ap (λ xs. rows_text (map frame_row xs)) (sym c.as_slice-frame-items.ensures)
    ∙ all_lines frame_row c.as_slice-frame-items.result.now c.loop-frame.frame-index c.loop-frame-test.false)
