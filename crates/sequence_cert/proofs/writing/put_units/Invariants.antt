use Rattle.std.proofs.Common.{take, map}
use Rattle.cert_lines.specs.Rows.{rows_text}
use Rattle.cert_text.specs.Sent.{Puts}
use Rattle.sequence_cert.specs.SequenceText.{unit_row}
use Rattle.sequence_cert.proofs.writing.put_units.Given as goal

abbrev pub invariant-loop-model : goal.invariant-loop-model
invariant-loop-model g l = Puts g.O.Output.told (g.O.Output.sent l.initial.out)
    (rows_text (map unit_row (take l.model-index l.model-items))) (g.O.Output.sent l.out)
