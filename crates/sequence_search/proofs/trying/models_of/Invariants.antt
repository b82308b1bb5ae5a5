use Rattle.std.proofs.Common.{◌≡◌, take}
use Rattle.sequence_search.specs.inner.Paths.{lasts}
use Rattle.sequence_search.proofs.trying.models_of.Given as goal

abbrev pub invariant-loop-k : goal.invariant-loop-k
invariant-loop-k l = l.models.items ≡ lasts (take l.k l.frames)
