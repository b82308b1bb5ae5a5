use Rattle.std.proofs.Common.{◌≡◌, ◌<◌, ℕ, nat_eq, get_or}
use Rattle.std.specs.Prelude.{count_by}
use Rattle.sequence_rules.proofs.sequences.is_sequence_of.Given as goal

abbrev pub invariant-loop-m : goal.invariant-loop-m
invariant-loop-m l = (j : ℕ) → j < l.m → count_by (λ u. nat_eq u j) l.sequence ≡ get_or l.demands j 0
