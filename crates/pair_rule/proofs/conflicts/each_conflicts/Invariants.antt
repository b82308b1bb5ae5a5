use Rattle.line_instance.specs.Truths.{In}
use Rattle.line_rules.specs.Pairs.{Conflict}
use Rattle.line_rules.proofs.GoneOver.{AreOver}
use Rattle.pair_rule.proofs.conflicts.each_conflicts.Given as goal

abbrev pub invariant-loop-i : goal.invariant-loop-i
invariant-loop-i l = record {
  can_next : (goal.iterator-loop-i).can_next l.i-iterator;
  finite : (goal.iterator-loop-i).is_finite l.i-iterator;
  over : AreOver l.others (In l.others) (λ i. Conflict l.kind l.inst l.cycle l.set i l.j) l.i-iterator;
}
