use Rattle.std.proofs.Common.{◌≡◌, take, map}
use Rattle.std.specs.Prelude.{slice_index}
use Rattle.entry_lists.proofs.trimming.moved_cites.Given as goal

abbrev pub invariant-loop-cite : goal.invariant-loop-cite
invariant-loop-cite l = l.moved.items ≡ map (slice_index l.places) (take l.cite-index l.cites)
