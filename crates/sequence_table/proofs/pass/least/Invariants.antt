use Rattle.std.proofs.Common.{◌≡◌, ◌+◌, ◌*◌, length, get_or}
use Rattle.sequence_table.specs.Nodes.{next_of}
use Rattle.sequence_table.specs.Values.{least_to}
use Rattle.sequence_table.proofs.pass.least.Given as goal

abbrev pub invariant-loop-k : goal.invariant-loop-k
invariant-loop-k l = l.least
    ≡ least_to (λ m. get_or l.costs (l.node * length l.table.times.demands + m) 0
    + get_or l.values (l.from + next_of l.table l.node m) 0) l.k
