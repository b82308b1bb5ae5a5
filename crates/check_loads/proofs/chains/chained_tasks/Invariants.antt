use Rattle.line_rules.proofs.SumsOverMembers.{AllIn}
use Rattle.line_rules.proofs.ChainFacts.{AreGathered}
use Rattle.check_loads.proofs.chains.chained_tasks.Given as goal

abbrev pub invariant-loop-j : goal.invariant-loop-j
invariant-loop-j l = record {
  can_next : (goal.iterator-loop-j).can_next l.j-iterator;
  finite : (goal.iterator-loop-j).is_finite l.j-iterator;
  members : AllIn l.set l.j-iterator;
  gathered : AreGathered l.inst l.cycle l.set l.stations l.found l.j-iterator;
}
