use Rattle.std.proofs.Common.{◌≡◌, ◌+◌, ◌-◌, ◌++◌, string_bytes}
use Rattle.named_drawing.specs.NamedDrawing.{rows_from}
use Rattle.named_drawing.proofs.picture.push_rows.Given as goal

abbrev pub invariant-loop-station : goal.invariant-loop-station
invariant-loop-station l =
    string_bytes l.text
    ++ rows_from l.inst l.figures l.names l.balance.place l.station (l.balance.stations + 1 - l.station)
    ≡ string_bytes l.fn.text ++ rows_from l.inst l.figures l.names l.balance.place 1 l.balance.stations
