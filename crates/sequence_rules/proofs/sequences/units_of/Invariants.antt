use Rattle.std.proofs.Common.{◌≡◌, ◌≤◌, nat_eq, take}
use Rattle.std.specs.Prelude.{count_by}
use Rattle.sequence_rules.proofs.sequences.units_of.Given as goal

abbrev pub invariant-loop-u : goal.invariant-loop-u
invariant-loop-u l = record {
  count : l.count ≡ count_by (λ u. nat_eq u l.model) (take l.u-index l.sequence);
  few : l.count ≤ l.u-index;
}
