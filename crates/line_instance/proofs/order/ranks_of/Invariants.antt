use Rattle.line_instance.proofs.MarkedRows.{IsRanking}
use Rattle.line_instance.proofs.order.ranks_of.Given as goal

abbrev pub invariant-loop-k : goal.invariant-loop-k
invariant-loop-k l = IsRanking l.order l.ranks.items l.k
