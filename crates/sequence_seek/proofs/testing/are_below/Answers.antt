use Rattle.std.proofs.Common.{arith}
use Rattle.sequence_walk.proofs.StateFacts.{all_below}
use Rattle.sequence_seek.proofs.testing.are_below.Goals as goal

pub returns : goal.returns
returns c = λ e. all_below c.args.limit c.args.numbers.now
    (λ j l. c.loop-n.invariant j (omega (arith, l, c.loop-n-test.false)))
