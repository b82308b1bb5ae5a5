-- The printed texts of `solve`, as functions of its answer.
use Rattle.std.specs.Prelude.{ℕ, List, ◌++◌, codes, decimal}
use Rattle.line_rules.specs.declared.types.LineKind.{LineKind}
use Rattle.line_rules.specs.declared.types.Balance.{Balance as Assignment}
use Rattle.station_report.specs.BalanceLines.{balance_lines}
use Rattle.command_outcome.specs.Bounds.{bounds_line}
use Rattle.task_names.specs.declared.naming.Naming.{Naming}

-- the line of an optimum: the fewest stations
abbrev pub optimal_line : ℕ → List ℕ
optimal_line stations = codes "optimal " ++ decimal stations ++ codes "\n"

-- the report of an optimum: the fewest stations, and the balance
abbrev pub optimal_text : Naming → LineKind → Assignment → ℕ → List ℕ
optimal_text naming kind b idle = optimal_line b.stations ++ balance_lines naming kind b idle

-- the report of a search that used its units: its bounds, and the best balance
abbrev pub stopped_text : Naming → LineKind → ℕ → Assignment → ℕ → List ℕ
stopped_text naming kind lower b idle = (codes "stopped by units\n" ++ bounds_line lower b.stations)
    ++ balance_lines naming kind b idle
