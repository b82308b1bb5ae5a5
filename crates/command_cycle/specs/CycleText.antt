-- The printed texts of `cycle`, as functions of its answer.
use Rattle.std.specs.Prelude.{ℕ, List, ◌++◌, codes, decimal}
use Rattle.line_rules.specs.declared.types.LineKind.{LineKind}
use Rattle.line_rules.specs.declared.types.Balance.{Balance as Assignment}
use Rattle.command_outcome.specs.Bounds.{bounds_line}
use Rattle.station_report.specs.BalanceLines.{balance_lines}
use Rattle.task_names.specs.declared.naming.Naming.{Naming}

-- the line of an optimum: the least cycle
abbrev pub optimal_line : ℕ → List ℕ
optimal_line cycle = codes "optimal cycle " ++ decimal cycle ++ codes "\n"

-- the report of an optimum: the least cycle, and the balance
abbrev pub optimal_text : Naming → LineKind → ℕ → Assignment → ℕ → List ℕ
optimal_text naming kind cycle b idle = optimal_line cycle ++ balance_lines naming kind b idle

-- the report of a search whose units ended: its bounds, and the balance at the upper one
abbrev pub stopped_text : Naming → LineKind → ℕ → ℕ → Assignment → ℕ → List ℕ
stopped_text naming kind lower upper b idle =
    (codes "stopped by units\n" ++ bounds_line lower upper) ++ balance_lines naming kind b idle
