use Rattle.std.proofs.Common.{◌<◌, ℕ}
use Rattle.line_instance.specs.Walks.{Names, arc_at}
use Rattle.line_instance.proofs.arcs.first_bad_arc.Given as goal

abbrev pub invariant-loop-k : goal.invariant-loop-k
invariant-loop-k l = (m : ℕ) → m < l.k → Names l.n (arc_at l.arcs m)
