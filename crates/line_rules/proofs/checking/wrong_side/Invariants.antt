use Rattle.std.proofs.Common.{◌<◌, ℕ}
use Rattle.line_rules.specs.Balance.{IsSide, seat}
use Rattle.line_rules.proofs.checking.wrong_side.Given as goal

abbrev pub invariant-loop-i : goal.invariant-loop-i
invariant-loop-i l = (j : ℕ) → j < l.i → IsSide l.kind (seat l.place j).side
