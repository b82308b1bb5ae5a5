use Rattle.std.proofs.Common.{◌≡◌, ◌++◌, replicate}
use Rattle.sequence_seek.proofs.orders.push_units.Given as goal

abbrev pub invariant-loop-k : goal.invariant-loop-k
invariant-loop-k l = l.sequence.items ≡ l.fn.sequence.items ++ replicate l.k l.model
