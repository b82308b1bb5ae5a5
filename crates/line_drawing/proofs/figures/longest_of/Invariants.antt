use Rattle.std.proofs.Common.{◌≡◌}
use Rattle.line_drawing.specs.Figures.{longest_of}
use Rattle.line_drawing.proofs.figures.longest_of.Given as goal

abbrev pub invariant-loop-station : goal.invariant-loop-station
invariant-loop-station l = l.longest ≡ longest_of l.inst l.places l.station
