use Rattle.std.proofs.Common.{◌≡◌, ◌+◌, max}
use Rattle.line_instance.specs.Line.{has, time}
use Rattle.line_instance.specs.Sums.{sum_where}
use Rattle.line_rules.specs.Times.{longest_of}
use Rattle.line_rules.proofs.SumsOverMembers.{weight_of, greatest_of, AllIn}
use Rattle.check_loads.proofs.sizes.times_in.Given as goal

abbrev pub invariant-loop-i : goal.invariant-loop-i
invariant-loop-i l = record {
  can_next : (goal.iterator-loop-i).can_next l.i-iterator;
  finite : (goal.iterator-loop-i).is_finite l.i-iterator;
  members : AllIn l.set l.i-iterator;
  total : l.times.total + weight_of (λ t. t) l.inst.times l.i-iterator ≡ sum_where (has l.set) l.inst.times;
  longest : max l.times.longest (greatest_of (time l.inst) l.i-iterator) ≡ longest_of l.inst l.set;
}
