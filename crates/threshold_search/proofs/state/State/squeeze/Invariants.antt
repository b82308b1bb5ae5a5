use Rattle.std.proofs.Common.{◌≡◌}
use Rattle.threshold_search.proofs.state.State.squeeze.Given as goal

abbrev pub invariant-loop-task : goal.invariant-loop-task
invariant-loop-task l = l.self.most ≡ l.fn.self.most
