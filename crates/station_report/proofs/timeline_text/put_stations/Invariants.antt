use Rattle.std.proofs.Common.{◌≡◌, ◌+◌, ◌-◌, ◌++◌, Some}
use Rattle.station_report.specs.inner.Table.{IsTable, table_text}
use Rattle.station_report.specs.TimelineText.{rows_from}
use Rattle.station_report.proofs.timeline_text.put_stations.Given as goal

abbrev pub invariant-loop-k : goal.invariant-loop-k
invariant-loop-k l = record {
  table : IsTable (λ v. Some v.items) l.table;
  text : table_text (λ v. Some v.items) l.table ++ rows_from l.mix l.balance.place l.sequence l.interval l.reach
      (l.k + 1) (l.balance.stations - l.k)
      ≡ table_text (λ v. Some v.items) l.fn.table ++ rows_from l.mix l.balance.place l.sequence l.interval l.reach 1
      l.balance.stations;
}
