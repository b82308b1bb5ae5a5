use Rattle.std.proofs.Common.{take, map}
use Rattle.cert_lines.specs.Rows.{rows_text}
use Rattle.cert_text.specs.Sent.{Puts}
use Rattle.sequence_cert.specs.SequenceText.{frame_row}
use Rattle.sequence_cert.proofs.writing.put_frames.Given as goal

abbrev pub invariant-loop-frame : goal.invariant-loop-frame
invariant-loop-frame g l = Puts g.O.Output.told (g.O.Output.sent l.initial.out)
    (rows_text (map frame_row (take l.frame-index l.frame-items))) (g.O.Output.sent l.out)
