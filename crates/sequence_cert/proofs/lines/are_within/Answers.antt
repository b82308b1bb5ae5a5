use Rattle.std.proofs.Common.{refl, arith}
use Rattle.std.proofs.lemmas.Bool.{false≢true}
use Rattle.sequence_cert.proofs.StateLines.{all_from}
use Rattle.sequence_cert.proofs.lines.are_within.Goals as goal

pub returns-then-number-most : goal.returns-then-number-most
returns-then-number-most c = (
  λ e. absurd (false≢true e),
  λ a. absurd (omega (arith, a c.loop-number.number-index 0 c.loop-number-test.true, c.if-number-most.true)),
)

pub returns : goal.returns
returns c = (
  λ e. all_from c.args.most c.args.numbers.now
      (λ j l. c.loop-number.invariant j (omega (arith, l, c.loop-number-test.false))),
  λ a. refl,
)
