use Rattle.std.proofs.Common.{arith}
use Rattle.line_rules.proofs.All.{In-all_lt}
use Rattle.line_rules.proofs.checking.first_broken.Goals as goal

pub returns-clause-none : goal.returns-clause-none
returns-clause-none c = λ _ i j m n x. c.loop-i.invariant i j (omega (arith, In-all_lt c.args.inst.now i m)) n x
