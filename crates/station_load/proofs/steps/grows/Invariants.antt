use Rattle.line_rules.specs.Sides.{pair_at}
use Rattle.station_load.specs.inner.Marked.{IsLeft}
use Rattle.station_load.proofs.PlaceTests.{NoneAtFrom}
use Rattle.station_load.proofs.steps.grows.Given as goal

abbrev pub decreases-loop-side : goal.decreases-loop-side
decreases-loop-side l = l.left.below

abbrev pub invariant-loop-side : goal.invariant-loop-side
invariant-loop-side l = record {
  none : NoneAtFrom l.inst l.cycle l.set l.side (pair_at l.side l.end.tasks l.other) l.left.below;
  left : IsLeft l.end.places l.left.below l.left.base l.left.word;
}
