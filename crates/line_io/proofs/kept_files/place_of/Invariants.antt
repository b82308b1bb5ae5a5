use Rattle.line_io.proofs.FilePlaces.{NoneBefore}
use Rattle.line_io.proofs.kept_files.place_of.Given as goal

abbrev pub invariant-loop-k : goal.invariant-loop-k
invariant-loop-k l = NoneBefore l.files l.name l.k
