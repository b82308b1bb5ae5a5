use Rattle.std.proofs.Common.{◌≡◌, ◌+◌, ◌++◌, drop, string_bytes}
use Rattle.station_report.specs.StationsText.{numbers_at}
use Rattle.station_report.proofs.stations.push_tasks.Given as goal

abbrev pub invariant-loop-place : goal.invariant-loop-place
invariant-loop-place l = record {
  number : l.number ≡ l.place-index + 1;
  text : string_bytes l.text ++ numbers_at l.side l.station l.number (drop l.place-index l.places)
      ≡ string_bytes l.fn.text ++ numbers_at l.side l.station 1 l.places;
}
