use Rattle.std.proofs.Common.{◌≡◌, ℕ, ◌<◌, length}
use Rattle.line_rules.specs.Balance.{seat}
use Rattle.station_search.specs.Parts.{IsPlaceOf}
use Rattle.station_search.proofs.placing.balance_of.Given as goal

abbrev pub invariant-loop-task : goal.invariant-loop-task
invariant-loop-task l = record {
  many : length l.place.items ≡ l.task;
  placed : (i : ℕ) → i < l.task → IsPlaceOf l.kind l.loads i (seat l.place.items i);
}
