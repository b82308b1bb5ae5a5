use Rattle.std.proofs.Common.{arith}
use Rattle.effic_search.proofs.LookFacts.{looked_over}
use Rattle.effic_search.proofs.trying.longest_station.Goals as goal

pub looks-preserved : goal.looks-preserved
looks-preserved c = λ d r.
    (looked_over c.args.kind c.args.inst.now d c.looks.longest c.args.balance.now c.tasks-tasks.ensures.line r
    c.in-Overfull.field-0 c.in-Overfull.time c.in-Overfull.ensures).1

pub looks-smaller : goal.looks-smaller
looks-smaller c =
    let o = looked_over c.args.kind c.args.inst.now c.args.cycle c.looks.longest c.args.balance.now
    c.tasks-tasks.ensures.line c.requires.right c.in-Overfull.field-0 c.in-Overfull.time c.in-Overfull.ensures in
    omega (arith, o.0, o.1)
