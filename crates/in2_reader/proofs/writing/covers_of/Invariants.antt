use Rattle.in2_reader.specs.Written.{AreCoversTo}
use Rattle.in2_reader.proofs.writing.covers_of.Given as goal

abbrev pub invariant-loop-i : goal.invariant-loop-i
invariant-loop-i l = AreCoversTo l.inst l.pairs.items l.i 0
