use Rattle.std.proofs.Common.{take, map}
use Rattle.cert_lines.specs.Rows.{rows_text}
use Rattle.cert_text.specs.Sent.{Puts}
use Rattle.sequence_cert.specs.SequenceText.{entry_row}
use Rattle.sequence_cert.proofs.writing.put_entries.Given as goal

abbrev pub invariant-loop-entry : goal.invariant-loop-entry
invariant-loop-entry g l = Puts g.O.Output.told (g.O.Output.sent l.initial.out)
    (rows_text (map entry_row (take l.entry-index l.entry-items))) (g.O.Output.sent l.out)
