use Rattle.std.proofs.Common.{take, map}
use Rattle.cert_lines.specs.ValueRows.{entry_row}
use Rattle.cert_lines.specs.Rows.{rows_text}
use Rattle.cert_text.specs.Sent.{Puts}
use Rattle.cert_text.proofs.lines.put_list.Given as goal

abbrev pub invariant-loop-entry : goal.invariant-loop-entry
invariant-loop-entry g l = Puts g.O.Output.told (g.O.Output.sent l.initial.out)
    (rows_text (map (entry_row l.tasks) (take l.entry-index l.entry-items))) (g.O.Output.sent l.out)
