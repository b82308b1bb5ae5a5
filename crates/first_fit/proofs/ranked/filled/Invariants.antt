use Rattle.first_fit.proofs.Fills.{IsFilling}
use Rattle.first_fit.proofs.StationSteps.{work}
use Rattle.first_fit.proofs.ranked.filled.Given as goal

abbrev pub decreases-filling : goal.decreases-filling
decreases-filling l = work l.filling

abbrev pub invariant-filling : goal.invariant-filling
invariant-filling l = IsFilling l.kind l.inst l.cycle l.filling l.place.items
