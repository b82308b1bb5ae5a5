use Rattle.std.proofs.Common.{◌<◌}
use Rattle.line_instance.specs.Line.{tasks}
use Rattle.line_rules.proofs.SumsOverMembers.{AllIn}
use Rattle.line_rules.proofs.ChainFacts.{AreGathered}
use Rattle.lower_bounds.proofs.chains.chained_tasks.Given as goal

abbrev pub invariant-loop-j : goal.invariant-loop-j
invariant-loop-j l = record {
  can_next : (goal.iterator-loop-j).can_next l.j-iterator;
  finite : (goal.iterator-loop-j).is_finite l.j-iterator;
  witness : l.witness < tasks l.inst;
  members : AllIn l.set l.j-iterator;
  gathered : AreGathered l.inst l.cycle l.set l.least l.chained l.j-iterator;
}
