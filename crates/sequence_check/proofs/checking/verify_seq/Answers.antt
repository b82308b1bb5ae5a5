use Rattle.sequence_check.proofs.RefusalFacts.{true_of, rejected_so}
use Rattle.sequence_check.proofs.checking.verify_seq.Goals as goal

pub returns-clause-proved : goal.returns-clause-proved
returns-clause-proved c = true_of c.args.times.now c.args.interval c.args.reach c.args.cert.now c.args.steps
    c.judge.result c.judge.ensures

pub returns-clause-rejected : goal.returns-clause-rejected
returns-clause-rejected c = rejected_so c.args.times.now c.args.interval c.args.reach c.args.cert.now c.args.steps
    c.judge.result c.judge.ensures
