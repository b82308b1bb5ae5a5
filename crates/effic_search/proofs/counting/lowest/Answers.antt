use Rattle.std.proofs.Common.{◌+◌, ◌*◌, arith}
use Rattle.effic_search.proofs.LowestFacts.{lowest_next}
use Rattle.effic_search.proofs.counting.lowest.Goals as goal

pub loop-stations-preserved : goal.loop-stations-preserved
loop-stations-preserved c =
    let from = c.from.ensures in
    let cycle = c.from-in-loop-stations.ensures in
    lowest_next c.args.inst.now c.args.entries.now c.args.least c.loop-stations.stations (c.loop-stations.stations + 1)
    c.args.upper c.loop-stations.lower c.min-lower.result c.greatest_refuted-cycle.result
    (c.from.result * (c.from-in-loop-stations.result + 1)) (omega arith) (omega (arith, c.loop-stations.auto.stations))
    c.greatest_refuted-cycle.ensures (λ i. from i * (cycle i + 1)) c.loop-stations.invariant c.min-lower.ensures
