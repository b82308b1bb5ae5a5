use Rattle.sequence_table.specs.inner.Levels.{AreCostsTo}
use Rattle.sequence_table.proofs.pass.costs.Given as goal

abbrev pub invariant-loop-i : goal.invariant-loop-i
invariant-loop-i l = AreCostsTo l.table l.charges l.costs.items l.i
