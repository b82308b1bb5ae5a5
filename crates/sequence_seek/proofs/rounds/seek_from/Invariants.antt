use Rattle.std.proofs.Common.{◌≤◌}
use Rattle.sequence_seek.proofs.rounds.seek_from.Given as goal

abbrev pub invariant-loop-nodes : goal.invariant-loop-nodes
invariant-loop-nodes l = record { some : 1 ≤ l.nodes; within : l.left ≤ l.limit }

abbrev pub decreases-loop-nodes : goal.decreases-loop-nodes
decreases-loop-nodes l = l.left
