-- The printed lines of a balance that several commands have: its idle time and its stations.
use Rattle.std.specs.Prelude.{ℕ, List, ◌++◌, codes, decimal}
use Rattle.line_rules.specs.declared.types.LineKind.{LineKind}
use Rattle.line_rules.specs.declared.types.Balance.{Balance as Assignment}
use Rattle.task_names.specs.declared.naming.Naming.{Naming}
use Rattle.station_report.specs.StationsText.{stations_text}

-- the line of the idle time, and the lines of all stations
abbrev pub balance_lines : Naming → LineKind → Assignment → ℕ → List ℕ
balance_lines naming kind b idle = codes "idle " ++ decimal idle ++ codes "\n" ++ stations_text naming kind b.stations
    b.place
