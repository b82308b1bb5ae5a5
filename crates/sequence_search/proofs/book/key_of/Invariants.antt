use Rattle.std.proofs.Common.{◌≡◌, drop}
use Rattle.sequence_search.specs.Index.{key_from}
use Rattle.sequence_search.proofs.book.key_of.Given as goal

abbrev pub invariant-loop-units : goal.invariant-loop-units
invariant-loop-units l = key_from l.key (drop l.units-index l.rem) ≡ key_from 0 l.rem
