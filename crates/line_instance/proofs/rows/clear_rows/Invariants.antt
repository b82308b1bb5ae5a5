use Rattle.std.proofs.Common.{◌≡◌, ◌<◌, ℕ, [], get_or, replicate, false}
use Rattle.line_instance.proofs.rows.clear_rows.Given as goal

abbrev pub invariant-loop-t : goal.invariant-loop-t
invariant-loop-t l = (k : ℕ) → k < l.t → get_or l.rows k [] ≡ replicate 1024 false
