-- The printed texts of `effic`, as functions of its certificate.
use Rattle.std.specs.Prelude.{ℕ, List, ◌++◌, codes, decimal}
use Rattle.command_outcome.specs.Bounds.{bounds_line}
use Rattle.station_report.specs.BalanceLines.{balance_lines}
use Rattle.line_rules.specs.declared.products.EfficCert.{EfficCert}
use Rattle.effic_search.specs.declared.searching.Ended.{Ended}
use Rattle.effic_search.specs.declared.searching.Ended.TheVariants as ended
use Rattle.task_names.specs.declared.naming.Naming.{Naming}

-- the line of the least product
abbrev pub optimal_line : ℕ → List ℕ
optimal_line product = codes "optimal product " ++ decimal product ++ codes "\n"

-- the line of why a search stopped
abbrev pub stopped_line : Ended → List ℕ
stopped_line ended.Units = codes "stopped by units\n"
stopped_line ended.Size = codes "stopped by size\n"

-- the line of the stations of a balance and its cycle
abbrev pub place_line : ℕ → ℕ → List ℕ
place_line stations cycle = codes "stations " ++ decimal stations ++ codes " cycle " ++ decimal cycle ++ codes "\n"

-- the report of the least product: it, the stations and the cycle of the balance, and the balance
abbrev pub optimal_text : Naming → EfficCert → ℕ → List ℕ
optimal_text naming cert idle =
    (optimal_line cert.upper ++ place_line cert.balance.stations cert.cycle)
    ++ balance_lines naming cert.kind cert.balance idle

-- the report of a search that stopped: why, its bounds, the stations and the cycle of the balance, and the balance
abbrev pub stopped_text : Naming → Ended → EfficCert → ℕ → List ℕ
stopped_text naming why cert idle =
    (stopped_line why ++ bounds_line cert.lower cert.upper ++ place_line cert.balance.stations cert.cycle)
    ++ balance_lines naming cert.kind cert.balance idle
