use Rattle.std.proofs.Common.{arith, refl}
use Rattle.sequence_rules.proofs.UnitCounts.{sequence_from}
use Rattle.sequence_rules.proofs.sequences.is_sequence_of.Goals as goal

pub returns : goal.returns
returns c = (
  λ e. sequence_from c.args.demands.now c.args.sequence.now c.requires.models
      (λ m l. c.loop-m.invariant m (omega (arith, l, c.loop-m-test.false))),
  λ s. refl,
)
