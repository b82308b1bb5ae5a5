use Rattle.std.proofs.Common.{◌-◌}
use Rattle.cycle_search.specs.inner.Searching.{IsBetween}
use Rattle.cycle_search.proofs.searching.halve.Given as goal

abbrev pub invariant-halving : goal.invariant-halving
invariant-halving g l = IsBetween l.kind l.inst l.stations l.plan l.search

abbrev pub decreases-halving : goal.decreases-halving
decreases-halving g l = l.search.upper - l.search.lower
