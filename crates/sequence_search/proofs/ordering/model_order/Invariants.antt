use Rattle.std.proofs.Common.{◌≡◌, ◌<◌, ◌≤◌, ℕ, nat_eq, get_or, take}
use Rattle.std.specs.Prelude.{count_by}
use Rattle.sequence_search.specs.Outcomes.{model_order}
use Rattle.sequence_search.proofs.ordering.model_order.Given as goal

abbrev pub invariant-loop-m : goal.invariant-loop-m
invariant-loop-m l = record {
  before : (j : ℕ) → j < l.m → count_by (λ u. nat_eq u j) l.sequence.items ≡ get_or l.demands j 0;
  order : l.sequence.items ≡ model_order (take l.m l.demands);
  after : (j : ℕ) → l.m ≤ j → count_by (λ u. nat_eq u j) l.sequence.items ≡ 0;
}
