use Rattle.station_load.specs.Walking.{IsWalk}
use Rattle.tests_search.proofs.searches.stops.has_further.Given as goal

abbrev pub invariant-walks : goal.invariant-walks
invariant-walks l = IsWalk l.inst l.walk
