use Rattle.entry_lists.proofs.KeptPlaces.{IsPlacing}
use Rattle.entry_lists.proofs.trimming.kept.Given as goal

abbrev pub invariant-loop-k : goal.invariant-loop-k
invariant-loop-k l = IsPlacing l.entries l.marks l.k l.places.items l.items.items
