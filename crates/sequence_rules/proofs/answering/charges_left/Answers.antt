use Rattle.std.proofs.Common.{arith}
use Rattle.sequence_rules.proofs.RowFacts.{owed_more}
use Rattle.sequence_rules.proofs.answering.charges_left.Goals as goal

pub overflow_mul-owed : goal.overflow_mul-owed
overflow_mul-owed c =
    let more =
    owed_more c.args.charges.now c.args.rem.now c.loop-m.m c.loop-m-test.true c.requires.limit c.requires.few in
    omega (arith, more.0, more.1)

pub overflow_add-owed : goal.overflow_add-owed
overflow_add-owed c =
    let more =
    owed_more c.args.charges.now c.args.rem.now c.loop-m.m c.loop-m-test.true c.requires.limit c.requires.few in
    omega (arith, more.0, more.1, c.loop-m.invariant)

pub loop-m-preserved : goal.loop-m-preserved
loop-m-preserved c =
    let more =
    owed_more c.args.charges.now c.args.rem.now c.loop-m.m c.loop-m-test.true c.requires.limit c.requires.few in
    omega (arith, more.0, c.loop-m.invariant)
