use Rattle.std.proofs.Common.{◌≡◌, ◌≤◌, ◌+◌, ◌*◌, drop}
use Rattle.timeline_drawing.specs.Visits.{row_utility}
use Rattle.timeline_drawing.proofs.visits.row_utility.Given as goal

abbrev pub invariant-loop-visit : goal.invariant-loop-visit
invariant-loop-visit l = record {
  sum : l.sum + row_utility (drop l.visit-index l.row) ≡ row_utility l.row;
  limit : l.sum ≤ 1025000000000 * l.visit-index;
}
