use Rattle.std.proofs.Common.{◌≤◌}
use Rattle.line_instance.specs.Line.{tasks}
use Rattle.line_rules.specs.Sides.{spot}
use Rattle.line_rules.specs.inner.Scan.{Scan}
use Rattle.station_load.proofs.places.climb.Given as goal

abbrev pub decreases-loop-place : goal.decreases-loop-place
decreases-loop-place l = l.place

abbrev pub invariant-loop-place : goal.invariant-loop-place
invariant-loop-place l = record {
  low : l.place ≤ tasks l.inst;
  scan : Scan l.inst l.cycle l.fn.mode l.set l.base l.load (spot l.inst l.side l.place);
}
