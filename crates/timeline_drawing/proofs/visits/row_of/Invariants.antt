use Rattle.std.proofs.Common.{◌≡◌}
use Rattle.std.specs.Prelude.{All}
use Rattle.timeline_drawing.specs.Visits.{IsVisit, course, row_to}
use Rattle.timeline_drawing.proofs.visits.row_of.Given as goal

abbrev pub invariant-loop-station : goal.invariant-loop-station
invariant-loop-station l = record {
  row : l.row.items ≡ row_to (course l.mix l.balance l.sequence l.interval l.reach) l.unit l.station;
  sound : All IsVisit l.row.items;
}
