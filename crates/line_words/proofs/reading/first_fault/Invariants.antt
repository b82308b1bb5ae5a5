use Rattle.std.proofs.Common.{◌≡◌, ◌<◌, ℕ, None}
use Rattle.line_words.specs.Words.{texts}
use Rattle.line_words.specs.Jobs.{fault_at}
use Rattle.line_words.proofs.reading.first_fault.Given as goal

abbrev pub invariant-loop-i : goal.invariant-loop-i
invariant-loop-i l = (k : ℕ) → k < l.i → fault_at l.command (texts l.words) k ≡ None
