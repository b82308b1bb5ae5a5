use Rattle.effic_search.specs.Lowest.{IsLowest}
use Rattle.effic_search.proofs.counting.lowest.Given as goal

abbrev pub invariant-loop-stations : goal.invariant-loop-stations
invariant-loop-stations l = IsLowest l.inst l.entries l.least l.stations l.upper l.lower
