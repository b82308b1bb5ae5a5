use Rattle.std.proofs.Common.{◌<◌, ℕ}
use Rattle.line_rules.specs.Checked.{Meets}
use Rattle.line_rules.proofs.checking.first_together.Given as goal

abbrev pub invariant-loop-i : goal.invariant-loop-i
invariant-loop-i l = (k j : ℕ) → k < l.i → Meets l.inst l.balance k j → ⊥
