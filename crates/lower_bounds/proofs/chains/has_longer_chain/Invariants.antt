use Rattle.std.proofs.Common.{◌≡◌, ◌<◌, ◌+◌, ◌-◌, max}
use Rattle.line_instance.specs.Line.{tasks}
use Rattle.line_instance.specs.Truths.{meet}
use Rattle.line_rules.specs.Bounds.{head, tail, chained}
use Rattle.line_rules.proofs.SumsOverMembers.{greatest_of, AllIn}
use Rattle.lower_bounds.proofs.chains.has_longer_chain.Given as goal

abbrev pub invariant-loop-j : goal.invariant-loop-j
invariant-loop-j l = record {
  can_next : (goal.iterator-loop-j).can_next l.j-iterator;
  finite : (goal.iterator-loop-j).is_finite l.j-iterator;
  witness : l.witness < tasks l.inst;
  members : AllIn (meet l.set l.asked) l.j-iterator;
  so_far : max l.most (greatest_of (λ j. head l.inst l.cycle l.set j + tail l.inst l.cycle l.set j - 1) l.j-iterator)
      ≡ max l.most (chained l.fn.kind l.inst l.cycle l.set);
}
