use Rattle.std.proofs.Common.{◌≡◌, ◌<◌, ◌≤◌, ℕ, nat_eq, get_or}
use Rattle.std.specs.Prelude.{count_by}
use Rattle.sequence_seek.proofs.orders.in_order.Given as goal

abbrev pub invariant-loop-m : goal.invariant-loop-m
invariant-loop-m l = record {
  before : (j : ℕ) → j < l.m → count_by (λ u. nat_eq u j) l.sequence.items ≡ get_or l.demands j 0;
  after : (j : ℕ) → l.m ≤ j → count_by (λ u. nat_eq u j) l.sequence.items ≡ 0;
}
