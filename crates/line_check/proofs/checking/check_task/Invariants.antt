use Rattle.std.proofs.Common.{ℕ, ◌<◌}
use Rattle.line_rules.specs.Bounds.{IsTooLong}
use Rattle.line_check.proofs.checking.check_task.Given as goal

abbrev pub invariant-loop-least : goal.invariant-loop-least
invariant-loop-least l = (j : ℕ) → j < l.least → IsTooLong l.inst l.cycle j → ⊥
