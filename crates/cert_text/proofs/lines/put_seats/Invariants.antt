use Rattle.std.proofs.Common.{take, map}
use Rattle.cert_lines.specs.ValueRows.{seat_row}
use Rattle.cert_lines.specs.Rows.{rows_text}
use Rattle.cert_text.specs.Sent.{Puts}
use Rattle.cert_text.proofs.lines.put_seats.Given as goal

abbrev pub invariant-loop-place : goal.invariant-loop-place
invariant-loop-place g l = Puts g.O.Output.told (g.O.Output.sent l.initial.out)
    (rows_text (map (seat_row l.kind) (take l.place-index l.places))) (g.O.Output.sent l.out)
