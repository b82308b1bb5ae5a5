use Rattle.std.proofs.Common.{◌<◌, ℕ}
use Rattle.line_instance.specs.inner.Inside.{MayCome}
use Rattle.line_instance.proofs.order.free_task.Given as goal

abbrev pub invariant-loop-t : goal.invariant-loop-t
invariant-loop-t l = (s : ℕ) → s < l.t → MayCome l.direct l.placed s → ⊥
