use Rattle.std.proofs.Common.{◌≡◌, ◌++◌, drop, cond, string_bytes}
use Rattle.station_report.specs.StationsText.{names_at, further, listed}
use Rattle.station_report.proofs.stations.push_names.Given as goal

abbrev pub invariant-loop-place : goal.invariant-loop-place
invariant-loop-place l = record {
  task : l.task ≡ l.place-index;
  text : string_bytes l.text ++ cond l.further
      (further (names_at l.names l.side l.station l.task (drop l.place-index l.places)))
      (listed (names_at l.names l.side l.station l.task (drop l.place-index l.places)))
      ≡ string_bytes l.fn.text ++ listed (names_at l.names l.side l.station 0 l.places);
}
