use Rattle.std.proofs.Common.{◌≡◌, ◌≤◌}
use Rattle.line_drawing.specs.Figures.{longest_note}
use Rattle.line_drawing.proofs.figures.longest_note.Given as goal

abbrev pub invariant-loop-station : goal.invariant-loop-station
invariant-loop-station l = record {
  note : l.longest ≡ longest_note l.inst l.cycle l.places l.station;
  short : l.longest ≤ 40;
}
