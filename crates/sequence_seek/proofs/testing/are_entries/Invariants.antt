use Rattle.std.proofs.Common.{◌≡◌, ℕ, ◌<◌, List, length, Some}
use Rattle.std.specs.Prelude.{slice_get}
use Rattle.sequence_values.specs.declared.types.SeqEntry.{SeqEntry}
use Rattle.sequence_rules.specs.Ranges.{IsEntry}
use Rattle.sequence_seek.proofs.testing.are_entries.Given as goal

abbrev pub invariant-loop-k : goal.invariant-loop-k
invariant-loop-k l = (charges : List ℕ) (j : ℕ) (e : SeqEntry) → j < l.k → slice_get l.entries j ≡ Some e
    → IsEntry (length l.times.demands) l.times.stations (Some charges) e
