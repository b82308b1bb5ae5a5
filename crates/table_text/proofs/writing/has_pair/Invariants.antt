use Rattle.std.proofs.Common.{ℕ, ◌<◌}
use Rattle.line_instance.specs.Line.{Apart}
use Rattle.table_text.proofs.writing.has_pair.Given as goal

abbrev pub invariant-loop-task : goal.invariant-loop-task
invariant-loop-task l = (j : ℕ) → j < l.task → (i : ℕ) → Apart l.inst i j → ⊥
