use Rattle.std.proofs.Common.{◌≡◌}
use Rattle.threshold_search.proofs.drifts.spend_unit.Given as goal

abbrev pub invariant-loop-step : goal.invariant-loop-step
invariant-loop-step l = l.state.most ≡ l.fn.state.most
