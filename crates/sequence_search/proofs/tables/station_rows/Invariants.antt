use Rattle.sequence_search.specs.Tables.{AreRows}
use Rattle.sequence_search.proofs.tables.station_rows.Given as goal

abbrev pub invariant-loop-s : goal.invariant-loop-s
invariant-loop-s l = AreRows l.mix l.balance.place l.rows.items l.s
