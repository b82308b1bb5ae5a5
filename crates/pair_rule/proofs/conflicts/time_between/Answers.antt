use Rattle.std.proofs.Common.{◌≡◌, ◌∙◌}
use Rattle.line_instance.specs.Truths.{meet, union}
use Rattle.line_rules.proofs.Between.{met_tasks, none_between, between_sum}
use Rattle.pair_rule.proofs.conflicts.time_between.Goals as goal

pub returns-in-U-clause-time : goal.returns-in-U-clause-time
returns-in-U-clause-time c = none_between c.args.kind c.in-U.is c.args.inst.now c.args.set.now c.args.i c.args.j

pub sum-requires : goal.sum-requires
sum-requires c = met_tasks c.args.inst.now c.args.set.now c.union.result c.meet-between.result c.requires.set
    c.meet-between.ensures.value c.meet-between.ensures.truths

pub returns-clause-time : goal.returns-clause-time
returns-clause-time c =
    let e : c.meet-between.result ≡ meet c.args.set.now (union (meet c.after.result.now c.before-2.result.now)
    (meet c.after-2.result.now c.before-3.result.now)) = cc in
    c.sum.ensures.sum ∙ between_sum c.args.inst.now c.args.set.now c.args.i c.args.j c.after.result.now
    c.before-2.result.now c.after-2.result.now c.before-3.result.now c.after.ensures.members c.before-2.ensures.members
    c.after-2.ensures.members c.before-3.ensures.members c.args.kind c.in-Straight.is c.meet-between.result e
