use Rattle.std.proofs.Common.{◌-◌}
use Rattle.line_instance.proofs.Orders.{size}
use Rattle.line_instance.proofs.RingFacts.{IsWalking}
use Rattle.line_instance.proofs.rings.walk_back.Given as goal

abbrev pub invariant-back : goal.invariant-back
invariant-back l = IsWalking l.direct l.placed l.path.items l.seen l.task

abbrev pub decreases-back : goal.decreases-back
decreases-back l = 1024 - size l.seen
