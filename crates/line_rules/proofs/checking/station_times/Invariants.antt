use Rattle.line_rules.proofs.Stations.{AreSummed}
use Rattle.line_rules.proofs.checking.station_times.Given as goal

abbrev pub invariant-loop-i : goal.invariant-loop-i
invariant-loop-i l = AreSummed l.inst l.place l.times 1025 200000000000000 l.i
