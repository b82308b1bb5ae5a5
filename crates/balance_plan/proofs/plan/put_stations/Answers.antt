use Rattle.std.proofs.Common.{◌+◌, ◌-◌, arith}
use Rattle.balance_plan.proofs.SideFacts.{station_turn}
use Rattle.balance_plan.proofs.StationTurns.{both_fit}
use Rattle.balance_plan.proofs.plan.put_stations.Goals as goal

pub put_station-requires-clause-fits : goal.put_station-requires-clause-fits
put_station-requires-clause-fits c =
    both_fit c.requires.right.0 c.args.inst.now c.args.cycle c.args.balance.now c.tasks-tasks.ensures.line
    c.tasks-tasks.ensures.ranked c.requires.right.1 (c.loop-k.k + 1)

pub loop-k-preserved : goal.loop-k-preserved
loop-k-preserved c =
    station_turn c.args.inst.now c.args.names.now c.args.cycle c.args.balance.now.place (c.loop-k.k + 1)
    (c.args.balance.now.stations - c.loop-k.k) (c.args.balance.now.stations - (c.loop-k.k + 1)) c.loop-k.sheet
    c.put_station.new.sheet _ (omega (arith, c.loop-k-test.true)) c.in_ok-put_station.ensures c.loop-k.invariant
