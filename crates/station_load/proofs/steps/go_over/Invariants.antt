use Rattle.station_load.specs.inner.Marked.{IsLeft}
use Rattle.station_load.proofs.EachStart.{AdvancingFromEach}
use Rattle.station_load.proofs.steps.go_over.Given as goal

abbrev pub invariant-loop-side : goal.invariant-loop-side
invariant-loop-side l = record {
  walk : AdvancingFromEach l.inst l.cycle l.fn.mode l.set l.side l.initial.end.tasks l.end.tasks l.end.free l.end.places
      l.other l.left.below l.sum;
  left : IsLeft l.end.places l.left.below l.left.base l.left.word;
}

abbrev pub decreases-loop-side : goal.decreases-loop-side
decreases-loop-side l = l.left.below
