use Rattle.std.proofs.Common.{◌≡◌, drop}
use Rattle.sequence_table.specs.Index.{key_from}
use Rattle.sequence_table.proofs.known.key_of.Given as goal

abbrev pub invariant-loop-start : goal.invariant-loop-start
invariant-loop-start l = key_from l.key (drop l.start-index l.starts) ≡ key_from 0 l.starts
