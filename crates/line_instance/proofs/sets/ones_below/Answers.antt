use Rattle.line_instance.proofs.Fills.{part_bits, all_bits}
use Rattle.line_instance.proofs.sets.ones_below.Goals as goal

pub returns-then-n-lt64-clause-bits : goal.returns-then-n-lt64-clause-bits
returns-then-n-lt64-clause-bits c = λ i _. part_bits c.args.n i c.if-n-lt64.true

pub returns-else-n-lt64-clause-bits : goal.returns-else-n-lt64-clause-bits
returns-else-n-lt64-clause-bits c = λ i l. all_bits c.args.n i c.if-n-lt64.false l
