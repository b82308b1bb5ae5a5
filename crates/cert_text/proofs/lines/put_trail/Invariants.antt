use Rattle.std.proofs.Common.{take, map}
use Rattle.cert_lines.specs.ValueRows.{frame_row}
use Rattle.cert_lines.specs.Rows.{rows_text}
use Rattle.cert_text.specs.Sent.{Puts}
use Rattle.cert_text.proofs.lines.put_trail.Given as goal

abbrev pub invariant-loop-frame : goal.invariant-loop-frame
invariant-loop-frame g l = Puts g.O.Output.told (g.O.Output.sent l.initial.out)
    (rows_text (map (frame_row l.tasks) (take l.frame-index l.frame-items))) (g.O.Output.sent l.out)
