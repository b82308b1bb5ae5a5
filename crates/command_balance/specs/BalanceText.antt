-- The printed text of `balance`, as a function of its answer.
use Rattle.std.specs.Prelude.{ℕ, List, ◌++◌, codes, decimal}
use Rattle.line_rules.specs.declared.types.LineKind.{LineKind}
use Rattle.line_rules.specs.declared.types.Balance.{Balance as Assignment}
use Rattle.station_report.specs.BalanceLines.{balance_lines}
use Rattle.task_names.specs.declared.naming.Naming.{Naming}

-- the report of a balance: its stations, the bound by total time, the idle time, and a line for each station
abbrev pub balance_text : Naming → LineKind → Assignment → ℕ → ℕ → List ℕ
balance_text naming kind b bound idle =
    (codes "balance " ++ decimal b.stations ++ codes "\ntotal bound " ++ decimal bound ++ codes "\n")
    ++ balance_lines naming kind b idle
