use Rattle.line_instance.proofs.Orders.{IsCounted}
use Rattle.line_instance.proofs.order.order_of.Given as goal

abbrev pub invariant-loop-rank : goal.invariant-loop-rank
invariant-loop-rank l = IsCounted l.direct l.placed l.order.items l._rank
