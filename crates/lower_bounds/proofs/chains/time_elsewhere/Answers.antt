use Rattle.std.proofs.Common.{◌∙◌, sym, ap, arith}
use Rattle.line_instance.specs.Line.{has}
use Rattle.line_instance.proofs.Members.{In-minus_parts}
use Rattle.line_rules.proofs.HeadTail.{elsewhere_set, elsewhere_sum, one_elsewhere}
use Rattle.lower_bounds.proofs.chains.time_elsewhere.Goals as goal

pub returns-then-time-limit-clause-none : goal.returns-then-time-limit-clause-none
returns-then-time-limit-clause-none c = λ _.
    let one = one_elsewhere c.args.inst.now c.tasks-tasks.ensures.line c.args.set.now c.requires.set c.args.j
    c.requires.member c.before-before.result.now c.after-after.result.now (λ i _. c.before-before.ensures.members i)
    (λ i _. c.after-after.ensures.members i)
    c.args.witness.now (sym c.has.ensures ∙ c.if-has.true) c.if-tried-j.true
    (sym c.has-then-tried-j.ensures ∙ c.if-not-has.true) (sym c.has-then-not-has.ensures ∙ c.if-not-has-2.true) in
    omega (arith, one, c.time.ensures.time, c.if-time-limit.true)

pub take_out-requires-2 : goal.take_out-requires-2
take_out-requires-2 c = λ i m. c.requires.set.tasks i (In-minus_parts c.args.set.now c.before-before.result.now i
    (ap (λ b. has b i) (sym c.take_out.ensures.value) ∙ m)).0

pub sum_up_to-requires : goal.sum_up_to-requires
sum_up_to-requires c =
    elsewhere_set c.args.inst.now c.tasks-tasks.ensures.line c.args.set.now c.requires.set c.args.j c.requires.member
    c.before-before.result.now c.after-after.result.now (λ i _. c.before-before.ensures.members i)
    (λ i _. c.after-after.ensures.members i)
    c.remove.new.self (cc (c.remove.ensures.value, c.take_out.ensures.value, c.take_out-2.ensures.value))
    c.remove.ensures.truths

pub returns-in-Ok-clause-some : goal.returns-in-Ok-clause-some
returns-in-Ok-clause-some c =
    c.in-Ok.ensures.sum ∙ elsewhere_sum c.args.inst.now c.tasks-tasks.ensures.line c.args.set.now c.requires.set
    c.args.j c.requires.member c.before-before.result.now c.after-after.result.now
    (λ i _. c.before-before.ensures.members i) (λ i _. c.after-after.ensures.members i)
    c.remove.new.self (cc (c.remove.ensures.value, c.take_out.ensures.value, c.take_out-2.ensures.value))

pub returns-in-Err-clause-none : goal.returns-in-Err-clause-none
returns-in-Err-clause-none c = λ _.
    let sum = elsewhere_sum c.args.inst.now c.tasks-tasks.ensures.line c.args.set.now c.requires.set c.args.j
    c.requires.member c.before-before.result.now c.after-after.result.now (λ i _. c.before-before.ensures.members i)
    (λ i _. c.after-after.ensures.members i)
    c.remove.new.self (cc (c.remove.ensures.value, c.take_out.ensures.value, c.take_out-2.ensures.value)) in
    omega (arith, sum, c.in-Err.ensures.more)
