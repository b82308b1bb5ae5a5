use Rattle.std.proofs.Common.{◌≡◌, ◌≤◌}
use Rattle.sequence_rules.specs.Entries.{models_left}
use Rattle.sequence_search.proofs.ordering.models_left.Given as goal

abbrev pub invariant-loop-m : goal.invariant-loop-m
invariant-loop-m l = record {
  models : l.models ≡ models_left l.rem l.m;
  few : l.models ≤ l.m;
}
