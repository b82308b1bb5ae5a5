use Rattle.std.proofs.Common.{◌≡◌, ℕ, ◌<◌, Some}
use Rattle.std.specs.Prelude.{slice_get}
use Rattle.sequence_values.specs.declared.types.SeqEntry.{SeqEntry}
use Rattle.sequence_rules.specs.Ranges.{IsEntry}
use Rattle.tests_sequence.proofs.warm_lists.are_entries.Given as goal

abbrev pub invariant-loop-k : goal.invariant-loop-k
invariant-loop-k l = (j : ℕ) (e : SeqEntry) → j < l.k → slice_get l.entries j ≡ Some e
    → IsEntry l.models l.stations (Some l.charges) e
