use Rattle.std.proofs.Common.{◌≡◌, ◌≤◌}
use Rattle.named_drawing.specs.Page.{longest_note}
use Rattle.named_drawing.proofs.page.longest_note.Given as goal

abbrev pub invariant-loop-station : goal.invariant-loop-station
invariant-loop-station l = record {
  note : l.longest ≡ longest_note l.inst l.cycle l.names l.places l.station;
  short : l.longest ≤ 40;
}
