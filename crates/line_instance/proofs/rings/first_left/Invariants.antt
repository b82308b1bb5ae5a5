use Rattle.std.proofs.Common.{◌<◌, ℕ}
use Rattle.line_instance.specs.Truths.{In}
use Rattle.line_instance.proofs.rings.first_left.Given as goal

abbrev pub invariant-loop-t : goal.invariant-loop-t
invariant-loop-t l = (k : ℕ) → k < l.t → In l.placed k
