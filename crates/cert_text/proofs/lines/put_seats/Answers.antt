use Rattle.std.proofs.Common.{refl}
use Rattle.cert_lines.specs.ValueRows.{seat_row}
use Rattle.cert_text.proofs.PutTexts.{puts, puts_as}
use Rattle.cert_text.proofs.PutLines.{next_line, all_lines}
use Rattle.cert_text.proofs.lines.put_seats.Goals as goal

pub loop-place-preserved : goal.loop-place-preserved
loop-place-preserved g c =
    puts _ _ _ _ _ _ _ c.loop-place.invariant c.put_seat.ensures
    (next_line (seat_row c.args.kind) c.args.places.now c.loop-place.place-index _ _ c.loop-place-test.true refl)

pub returns : goal.returns
returns g c = puts_as _ _ _ _ _ c.loop-place.invariant (all_lines (seat_row c.args.kind) c.args.places.now
    c.loop-place.place-index c.loop-place-test.false)
