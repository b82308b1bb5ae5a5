use Rattle.std.proofs.Common.{◌≡◌, ◌≤◌, ◌+◌, ◌++◌, Some, drop, get_or}
use Rattle.station_report.specs.inner.Table.{IsTable, table_text}
use Rattle.station_report.specs.TimelineText.{unit_rows}
use Rattle.station_report.proofs.timeline_text.put_units.Given as goal

abbrev pub invariant-loop-k : goal.invariant-loop-k
invariant-loop-k l = record {
  table : IsTable (λ v. Some v.items) l.table;
  text : table_text (λ v. Some v.items) l.table ++ unit_rows l.mix.models (λ m. get_or l.works m 0) l.station l.interval
      l.reach (l.k + 1) l.start (drop l.k l.sequence)
      ≡ table_text (λ v. Some v.items) l.fn.table ++ unit_rows l.mix.models (λ m. get_or l.works m 0) l.station
      l.interval l.reach 1 0 l.sequence;
  start : l.start ≤ l.reach;
}
