use Rattle.command_outcome.proofs.FoundFacts.{cut_as}
use Rattle.command_effic.specs.EfficFound.{least_product}
use Rattle.command_effic.proofs.effic.found.Goals as goal

pub returns-in_ok-optimal-in-Solved-clause-answer : goal.returns-in_ok-optimal-in-Solved-clause-answer
returns-in_ok-optimal-in-Solved-clause-answer g c =
    let w = c.args.wanted in
    c.in_ok-optimal-in-Solved.ensures w.kind w.least w.most c.in-Solved.ensures.0 c.in-Solved.ensures.1

pub returns-in_ok-stopped-in-Stopped-clause-answer : goal.returns-in_ok-stopped-in-Stopped-clause-answer
returns-in_ok-stopped-in-Stopped-clause-answer g c =
    let w = c.args.wanted in
    c.in_ok-stopped-in-Stopped.ensures w.kind w.least w.most c.in-Stopped.closing_from c.in-Stopped.ensures.0
    c.in-Stopped.ensures.1

pub returns-in_ok-cut_short-in-Memory-clause-answer : goal.returns-in_ok-cut_short-in-Memory-clause-answer
returns-in_ok-cut_short-in-Memory-clause-answer g c =
    let w = c.args.wanted in
    let m = c.in-Memory in
    cut_as (least_product c.args.naming.now w.kind c.args.inst.now w.least w.most c.args.plan.now) m.lower m.upper
    c.in_ok-cut_short-in-Memory.field-0 m.ensures.below m.ensures c.in_ok-cut_short-in-Memory.ensures.answer
