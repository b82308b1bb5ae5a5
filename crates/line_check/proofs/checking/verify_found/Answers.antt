use Rattle.line_check.proofs.VerdictFacts.{accepted_so, true_of}
use Rattle.line_check.proofs.RuledOut.{rejected_so}
use Rattle.line_check.proofs.checking.verify_found.Goals as goal

pub returns-clause-accepted : goal.returns-clause-accepted
returns-clause-accepted c = accepted_so c.args.inst.now c.args.cert.now c.args.steps c.judge.result c.judge.ensures

pub returns-clause-true_bounds : goal.returns-clause-true_bounds
returns-clause-true_bounds c =
    true_of c.args.inst.now c.tasks-tasks.ensures.line c.args.cert.now c.args.steps c.judge.result
    (accepted_so c.args.inst.now c.args.cert.now c.args.steps c.judge.result c.judge.ensures)

pub returns-clause-rejected : goal.returns-clause-rejected
returns-clause-rejected c = rejected_so c.args.inst.now c.tasks-tasks.ensures.line c.args.cert.now c.args.steps
    c.judge.result c.judge.ensures
