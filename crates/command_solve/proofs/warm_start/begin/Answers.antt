use Rattle.std.proofs.Common.{string_bytes}
use Rattle.command_solve.proofs.BegunFacts.{begun_sought, begun_unsought, taken_within}
use Rattle.command_solve.proofs.warm_start.begin.Goals as goal

pub returns-then-effort-eq0 : goal.returns-then-effort-eq0
returns-then-effort-eq0 g c = λ kind cycle olds ready.
    begun_unsought kind c.args.inst.now cycle c.args.plan.now c.args.effort olds c.args.taken
    (string_bytes c.args.taken.first) ready c.requires.effort.first c.requires.plan.limit c.if-effort-eq0.true

pub take_sought-requires-clause-kept : goal.take_sought-requires-clause-kept
take_sought-requires-clause-kept g c κs within =
    let r = c.requires.ready in
    (taken_within r.0 c.args.inst.now r.1 c.args.plan.now c.args.effort.first r.2 c.args.taken
    (string_bytes c.args.taken.first) r.3).0

pub take_sought-requires-clause-units : goal.take_sought-requires-clause-units
take_sought-requires-clause-units g c κs within =
    let r = c.requires.ready in
    (taken_within r.0 c.args.inst.now r.1 c.args.plan.now c.args.effort.first r.2 c.args.taken
    (string_bytes c.args.taken.first) r.3).1

pub returns : goal.returns
returns g c = λ kind cycle olds ready.
    begun_sought kind c.args.inst.now cycle c.args.plan.now c.args.effort olds c.args.taken
    (string_bytes c.args.taken.first) ready c.requires.effort.first c.requires.plan.limit c.take_sought.result
    c.if-effort-eq0.false (c.take_sought.ensures.sought ready.at ready.same_kept ready.same_units)
    c.take_sought.ensures.reserved
