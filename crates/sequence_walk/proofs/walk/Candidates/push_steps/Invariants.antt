use Rattle.std.proofs.Common.{◌≡◌, ◌+◌, take}
use Rattle.sequence_walk.specs.Walks.{models_left}
use Rattle.sequence_walk.proofs.walk.Candidates.push_steps.Given as goal

abbrev pub invariant-loop-model : goal.invariant-loop-model
invariant-loop-model l = l.units + models_left (take l.model l.rem) ≡ l.fn.units
