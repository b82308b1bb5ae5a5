use Rattle.std.proofs.Common.{◌≡◌, ◌++◌, string_bytes}
use Rattle.timeline_drawing.specs.Drawing.{panels_to}
use Rattle.timeline_drawing.proofs.drawing.push_panels.Given as goal

abbrev pub invariant-loop-station : goal.invariant-loop-station
invariant-loop-station l = string_bytes l.text ≡ string_bytes l.fn.text ++ panels_to l.figures l.station
