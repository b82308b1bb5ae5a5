use Rattle.std.proofs.Common.{◌≡◌, take}
use Rattle.sequence_rules.specs.Entries.{units_of}
use Rattle.sequence_search.proofs.ordering.entries_units.Given as goal

abbrev pub invariant-loop-k : goal.invariant-loop-k
invariant-loop-k l = l.units ≡ units_of l.charges (take l.k l.entries)
