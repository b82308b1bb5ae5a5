use Rattle.std.proofs.Common.{◌≡◌, ◌++◌, take, map}
use Rattle.cycle_search.specs.inner.Joined.{raised_entry}
use Rattle.cycle_search.proofs.joining.joined.Given as goal

abbrev pub invariant-loop-entry : goal.invariant-loop-entry
invariant-loop-entry l = l.all ≡ l.initial.all ++ map (raised_entry l.earlier) (take l.entry-index l.entry-items)
