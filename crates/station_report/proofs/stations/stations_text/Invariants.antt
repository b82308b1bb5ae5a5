use Rattle.std.proofs.Common.{◌≡◌, ◌+◌, ◌-◌, ◌++◌, string_bytes}
use Rattle.station_report.specs.StationsText.{lines_from, stations_text}
use Rattle.station_report.proofs.stations.stations_text.Given as goal

abbrev pub invariant-loop-station : goal.invariant-loop-station
invariant-loop-station l = string_bytes l.text
    ++ lines_from l.naming l.kind l.station (l.balance.stations + 1 - l.station) l.balance.place
    ≡ stations_text l.naming l.kind l.balance.stations l.balance.place
