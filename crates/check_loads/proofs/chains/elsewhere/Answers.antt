use Rattle.line_rules.proofs.HeadTail.{elsewhere_set, elsewhere_sum}
use Rattle.check_loads.proofs.chains.elsewhere.Goals as goal

pub returns-clause-set : goal.returns-clause-set
returns-clause-set c =
    elsewhere_set c.args.inst.now c.tasks-tasks.ensures.line c.args.set.now c.requires.set c.args.j c.requires.member
    c.before-before.result.now c.after-after.result.now (λ i _. c.before-before.ensures.members i)
    (λ i _. c.after-after.ensures.members i)
    c.remove.new.self (cc (c.remove.ensures.value, c.minus-elsewhere.ensures.value, c.minus.ensures.value))
    c.remove.ensures.truths

pub returns-clause-sum : goal.returns-clause-sum
returns-clause-sum c =
    elsewhere_sum c.args.inst.now c.tasks-tasks.ensures.line c.args.set.now c.requires.set c.args.j c.requires.member
    c.before-before.result.now c.after-after.result.now (λ i _. c.before-before.ensures.members i)
    (λ i _. c.after-after.ensures.members i)
    c.remove.new.self (cc (c.remove.ensures.value, c.minus-elsewhere.ensures.value, c.minus.ensures.value))
