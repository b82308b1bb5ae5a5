use Rattle.std.proofs.Common.{take, length}
use Rattle.line_instance.specs.inner.Inside.{ArePaired}
use Rattle.line_instance.proofs.rows.mark_pairs.Given as goal

abbrev pub invariant-loop-pair : goal.invariant-loop-pair
invariant-loop-pair l = ArePaired (length l.fn.rows) (take l.pair-index l.pairs) l.rows
