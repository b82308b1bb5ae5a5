use Rattle.std.proofs.Common.{◌≡◌, ◌+◌, ◌-◌}
use Rattle.std.specs.Prelude.{map}
use Rattle.sheet_rows.specs.SheetRows.{with_rows}
use Rattle.balance_plan.specs.Plan.{plan_record, turns_from}
use Rattle.balance_plan.proofs.plan.put_stations.Given as goal

abbrev pub invariant-loop-k : goal.invariant-loop-k
invariant-loop-k l = with_rows l.sheet (map (plan_record l.inst l.names)
    (turns_from l.inst l.cycle l.balance.place (l.k + 1) (l.balance.stations - l.k)))
    ≡ with_rows l.fn.sheet (map (plan_record l.inst l.names)
    (turns_from l.inst l.cycle l.balance.place 1 l.balance.stations))
