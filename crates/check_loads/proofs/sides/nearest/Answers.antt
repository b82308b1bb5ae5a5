use Rattle.std.proofs.Common.{arith}
use Rattle.line_instance.proofs.Members.{In-below}
use Rattle.check_loads.proofs.sides.nearest.Goals as goal

pub returns-in-Back-clause-none : goal.returns-in-Back-clause-none
returns-in-Back-clause-none c = λ n i m. omega (
  arith,
  c.greatest_below.ensures.none.0 n i m,
  In-below c.args.set.now i m,
  c.capacity-most.ensures.truths,
)
