use Rattle.line_instance.proofs.HighestBits.{kept_bits, lost_bits}
use Rattle.line_instance.proofs.sets.low_bits.Goals as goal

pub returns-clause-below : goal.returns-clause-below
returns-clause-below c = λ i h. kept_bits c.args.word c.args.n i c.requires h

pub returns-clause-above : goal.returns-clause-above
returns-clause-above c = λ i h. lost_bits c.args.word c.args.n i c.requires h
