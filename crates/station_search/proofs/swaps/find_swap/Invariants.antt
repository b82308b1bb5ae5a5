use Rattle.std.proofs.Common.{◌≡◌}
use Rattle.lemma_core.specs.Desks.{Waits}
use Rattle.line_rules.proofs.SumsOverMembers.{AllIn}
use Rattle.station_search.proofs.swaps.find_swap.Given as goal

abbrev pub invariant-loop-task : goal.invariant-loop-task
invariant-loop-task g l = record {
  can_next : (goal.iterator-loop-task g).can_next l.task-iterator;
  finite : (goal.iterator-loop-task g).is_finite l.task-iterator;
  members : AllIn l.set l.task-iterator;
  swapped : l.swapped ≡ l.set;
  waits : Waits (g.D.Desk.desk l.fn.desk) (g.D.Desk.desk l.desk);
}
