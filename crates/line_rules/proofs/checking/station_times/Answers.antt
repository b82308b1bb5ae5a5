use Rattle.std.proofs.Common.{refl, arith}
use Rattle.line_rules.proofs.Stations.{summed_more}
use Rattle.line_rules.proofs.checking.station_times.Goals as goal

pub loop-i-preserved : goal.loop-i-preserved
loop-i-preserved c = summed_more c.args.inst.now c.args.place.now c.loop-i.times 1025 200000000000000 c.loop-i.i
    c.at.result.now.station c.time.result c.at.result.now
    c.tasks-i-end.ensures.line.small (omega arith) c.at.ensures refl c.time.ensures.time c.time.ensures.limit
    (omega (arith, c.requires.few c.loop-i.i (omega arith))) c.loop-i.invariant
