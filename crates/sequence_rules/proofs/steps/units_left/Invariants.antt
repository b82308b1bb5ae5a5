use Rattle.std.proofs.Common.{◌≡◌, take, sum}
use Rattle.sequence_rules.proofs.steps.units_left.Given as goal

abbrev pub invariant-loop-n : goal.invariant-loop-n
invariant-loop-n l = l.units ≡ sum (take l.n-index l.rem)
