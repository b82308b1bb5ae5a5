use Rattle.std.proofs.Common.{◌<◌}
use Rattle.std.specs.Prelude.{All}
use Rattle.sequence_table.specs.inner.Levels.{AreValuesTo}
use Rattle.sequence_table.proofs.table.Table.values.Given as goal

abbrev pub invariant-loop-i : goal.invariant-loop-i
invariant-loop-i l = record {
  values : AreValuesTo l.self l.charges l.all.items l.i;
  limit : All (λ v. v < 1000000000000000000) l.all.items;
}
