use Rattle.station_load.specs.Walking.{IsWalk}
use Rattle.tests_line.proofs.loads.walked.Given as goal

abbrev pub invariant-steps : goal.invariant-steps
invariant-steps l = IsWalk l.inst l.walk
