use Rattle.std.proofs.Common.{◌≡◌, ◌+◌}
use Rattle.station_search.specs.inner.Steps.{HasSkipped}
use Rattle.station_search.proofs.listings.pass_over.Given as goal

abbrev pub invariant-closed : goal.invariant-closed
invariant-closed l = record {
  units : l.units.used + l.units.left ≡ l.fn.units.used + l.fn.units.left;
  skipped : HasSkipped l.fn.kind l.inst l.cycle l.frame l.fn.units.used l.units.used l.listing;
  times : l.listing.times ≡ l.fn.listing.times;
}

abbrev pub decreases-closed : goal.decreases-closed
decreases-closed l = l.units.left
