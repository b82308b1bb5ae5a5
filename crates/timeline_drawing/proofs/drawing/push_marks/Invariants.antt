use Rattle.std.proofs.Common.{◌≡◌, ◌++◌, string_bytes}
use Rattle.timeline_drawing.specs.Visits.{Course}
use Rattle.timeline_drawing.specs.Figures.{AreSums}
use Rattle.timeline_drawing.specs.Drawing.{marks_to}
use Rattle.timeline_drawing.proofs.drawing.push_marks.Given as goal

abbrev pub invariant-loop-station : goal.invariant-loop-station
invariant-loop-station l =
    (d : Course) → d.balance.stations ≡ l.figures.stations → AreSums d l.sums
    → string_bytes l.text ≡ string_bytes l.fn.text ++ marks_to d l.figures l.station
