use Rattle.std.proofs.Common.{refl, arith}
use Rattle.sequence_walk.proofs.StateFacts.{all_at_most}
use Rattle.sequence_walk.proofs.ranges.are_at_most.Goals as goal

pub returns : goal.returns
returns c = (
  (λ e. all_at_most c.args.most c.args.numbers.now
      (λ j l. c.loop-n.invariant j (omega (arith, l, c.loop-n-test.false)))),
  (λ all. refl),
)
