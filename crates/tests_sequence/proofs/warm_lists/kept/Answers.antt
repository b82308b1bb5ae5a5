use Rattle.std.proofs.Common.{ℕ, Some, subst}
use Rattle.sequence_rules.specs.Ranges.{IsEntry}
use Rattle.tests_sequence.proofs.warm_lists.kept.Goals as goal

pub warm_seq-requires-clause-old : goal.warm_seq-requires-clause-old
warm_seq-requires-clause-old c = λ k e there.
    let P : ℕ → Type 0 = λ z. IsEntry z c.in_ok-times.times.stations (Some c.in_ok-charges.charges) e in
    subst P c.len-models.ensures (c.are_entries.ensures c.if-not-are_entries.false k e there)
