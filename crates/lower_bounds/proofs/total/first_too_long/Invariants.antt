use Rattle.std.proofs.Common.{◌<◌, ℕ}
use Rattle.line_rules.specs.Bounds.{IsTooLong}
use Rattle.lower_bounds.proofs.total.first_too_long.Given as goal

abbrev pub invariant-loop-i : goal.invariant-loop-i
invariant-loop-i l = (k : ℕ) → k < l.i → IsTooLong l.inst l.cycle k → ⊥
