use Rattle.std.proofs.Common.{◌≡◌, ◌≤◌, ◌++◌, length, take, drop}
use Rattle.station_search.specs.inner.Order.{fores, backs}
use Rattle.station_search.proofs.ordering.loads_in_order.Given as goal

abbrev pub invariant-loop-k : goal.invariant-loop-k
invariant-loop-k l = l.loads ≡ fores (take l.k l.frames)

abbrev pub invariant-loop-left : goal.invariant-loop-left
invariant-loop-left l = record {
  within : l.left ≤ length l.frames;
  pushed : l.loads ≡ fores l.frames ++ backs (drop l.left l.frames);
}

abbrev pub decreases-loop-left : goal.decreases-loop-left
decreases-loop-left l = l.left
