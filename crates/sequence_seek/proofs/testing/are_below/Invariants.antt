use Rattle.std.proofs.Common.{ℕ, ◌<◌, get_or}
use Rattle.sequence_seek.proofs.testing.are_below.Given as goal

abbrev pub invariant-loop-n : goal.invariant-loop-n
invariant-loop-n l = (j : ℕ) → j < l.n-index → get_or l.numbers j 0 < l.limit
