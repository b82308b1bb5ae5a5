use Rattle.effic_check.proofs.RefusalFacts.{accepted_so, rejected_so}
use Rattle.effic_check.proofs.AcceptedIsTrue.{true_of}
use Rattle.std.proofs.Common.{inr, arith}
use Rattle.effic_check.proofs.checking.verify_effic.Goals as goal

pub returns-clause-accepted : goal.returns-clause-accepted
returns-clause-accepted c =
    accepted_so c.args.inst.now c.tasks-tasks.ensures.line c.args.cert.now c.args.steps c.judge.result
    (inr (omega (arith, c.if-cert-tasks.false, c.tasks-tasks.ensures.tasks), c.judge.ensures))

pub returns-clause-rejected : goal.returns-clause-rejected
returns-clause-rejected c =
    rejected_so c.args.inst.now c.tasks-tasks.ensures.line c.args.cert.now c.args.steps c.judge.result
    (inr (omega (arith, c.if-cert-tasks.false, c.tasks-tasks.ensures.tasks), c.judge.ensures))

pub returns-clause-true_bounds : goal.returns-clause-true_bounds
returns-clause-true_bounds c =
    true_of c.args.inst.now c.tasks-tasks.ensures.line c.args.cert.now c.requires.sayable c.args.steps c.judge.result
    (accepted_so c.args.inst.now c.tasks-tasks.ensures.line c.args.cert.now c.args.steps c.judge.result
    (inr (omega (arith, c.if-cert-tasks.false, c.tasks-tasks.ensures.tasks), c.judge.ensures)))
