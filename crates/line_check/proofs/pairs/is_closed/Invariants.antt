use Rattle.std.proofs.Common.{◌<◌, ℕ}
use Rattle.line_check.specs.inner.Pairs.{IsClosedAt}
use Rattle.line_check.proofs.pairs.is_closed.Given as goal

abbrev pub invariant-loop-i : goal.invariant-loop-i
invariant-loop-i l = (j : ℕ) → j < l.i → IsClosedAt l.inst l.set l.load l.taken j
