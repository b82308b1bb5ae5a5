use Rattle.std.proofs.Common.{◌≡◌, drop}
use Rattle.std.specs.Prelude.{max}
use Rattle.timeline_drawing.specs.Visits.{latest_of}
use Rattle.timeline_drawing.proofs.visits.latest_of.Given as goal

abbrev pub invariant-loop-visit : goal.invariant-loop-visit
invariant-loop-visit l = max l.latest (latest_of (drop l.visit-index l.row)) ≡ latest_of l.row
