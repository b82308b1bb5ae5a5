use Rattle.std.proofs.Common.{◌≡◌, ◌≤◌, ◌+◌}
use Rattle.line_instance.specs.Line.{has}
use Rattle.line_instance.specs.Sums.{sum_where}
use Rattle.line_rules.proofs.SumsOverMembers.{weight_of, AllIn}
use Rattle.check_loads.proofs.chains.is_longer.Given as goal

abbrev pub invariant-loop-i : goal.invariant-loop-i
invariant-loop-i l = record {
  can_next : (goal.iterator-loop-i).can_next l.i-iterator;
  finite : (goal.iterator-loop-i).is_finite l.i-iterator;
  members : AllIn l.set l.i-iterator;
  so_far : l.sum + weight_of (λ t. t) l.inst.times l.i-iterator ≡ sum_where (has l.set) l.inst.times;
  within : l.sum ≤ l.limit;
}
