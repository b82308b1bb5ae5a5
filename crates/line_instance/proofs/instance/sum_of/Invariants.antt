use Rattle.std.proofs.Common.{◌≡◌, ◌+◌, ◌≤◌}
use Rattle.line_instance.specs.Line.{has}
use Rattle.line_instance.specs.Sums.{sum_where}
use Rattle.line_instance.proofs.Sums.{below}
use Rattle.line_instance.proofs.instance.sum_of.Given as goal

abbrev pub invariant-loop-i : goal.invariant-loop-i
invariant-loop-i l = record {
  few : l.bound ≤ 1024;
  so_far : l.sum + sum_where (below l.set l.bound) l.times ≡ sum_where (has l.set) l.times;
}

abbrev pub decreases-loop-i : goal.decreases-loop-i
decreases-loop-i l = l.bound
