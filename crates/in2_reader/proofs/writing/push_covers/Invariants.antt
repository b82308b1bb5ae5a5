use Rattle.in2_reader.specs.Written.{AreCoversTo}
use Rattle.in2_reader.proofs.writing.push_covers.Given as goal

abbrev pub invariant-loop-j : goal.invariant-loop-j
invariant-loop-j l = AreCoversTo l.inst l.pairs.items l.i l.j
