use Rattle.std.proofs.Common.{◌+◌, arith}
use Rattle.line_rules.proofs.HeadTail.{met_set, chain_is}
use Rattle.check_loads.proofs.chains.chain.Goals as goal

pub sum-requires : goal.sum-requires
sum-requires c = met_set c.args.inst.now c.tasks-tasks.ensures.line c.args.set.now c.requires.set c.args.j
    c.requires.member c.before-2.result.now c.meet.result c.meet.ensures.value c.meet.ensures.truths

pub sum-requires-2 : goal.sum-requires-2
sum-requires-2 c = met_set c.args.inst.now c.tasks-tasks.ensures.line c.args.set.now c.requires.set c.args.j
    c.requires.member c.after.result.now c.meet-2.result c.meet-2.ensures.value c.meet-2.ensures.truths

pub returns : goal.returns
returns c =
    let e = chain_is c.args.inst.now c.tasks-tasks.ensures.line c.args.set.now c.requires.set c.args.j c.requires.member
    c.before-2.result.now c.after.result.now c.meet.result c.meet-2.result c.before-2.ensures.members
    c.after.ensures.members
    c.meet.ensures.value c.meet-2.ensures.value c.args.cycle (c.sum.result + c.time.result)
    (c.sum-2.result + c.time-2.result) c.requires.some (omega (arith, c.sum.ensures.sum, c.time.ensures.time))
    (omega (arith, c.sum-2.ensures.sum, c.time-2.ensures.time)) in
    omega (arith, e, c.div_ceil.ensures, c.div_ceil-2.ensures, c.saturating_sub.ensures)
