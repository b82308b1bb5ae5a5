use Rattle.std.proofs.Common.{◌≡◌}
use Rattle.threshold_search.proofs.drifts.spend.Given as goal

abbrev pub invariant-loop-unit : goal.invariant-loop-unit
invariant-loop-unit l = l.state.most ≡ l.fn.state.most
