use Rattle.std.proofs.Common.{◌≡◌, ◌+◌, ◌-◌, max}
use Rattle.line_instance.specs.Truths.{meet}
use Rattle.line_rules.specs.Bounds.{head, tail, chained}
use Rattle.line_rules.proofs.SumsOverMembers.{greatest_of, AllIn}
use Rattle.check_loads.proofs.chains.has_longer_chain.Given as goal

abbrev pub invariant-loop-j : goal.invariant-loop-j
invariant-loop-j l = record {
  can_next : (goal.iterator-loop-j).can_next l.j-iterator;
  finite : (goal.iterator-loop-j).is_finite l.j-iterator;
  members : AllIn (meet l.set l.among) l.j-iterator;
  so_far : max l.stations (greatest_of (λ j. head l.inst l.cycle l.set j + tail l.inst l.cycle l.set j - 1)
      l.j-iterator) ≡ max l.stations (chained l.fn.kind l.inst l.cycle l.set);
}
