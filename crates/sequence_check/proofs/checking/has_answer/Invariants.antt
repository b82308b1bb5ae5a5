use Rattle.std.proofs.Common.{◌≡◌, ℕ, ◌<◌, Some}
use Rattle.std.specs.Prelude.{slice_get}
use Rattle.sequence_rules.specs.Entries.{Answers}
use Rattle.sequence_values.specs.declared.types.SeqEntry.{SeqEntry}
use Rattle.sequence_check.proofs.checking.has_answer.Given as goal

abbrev pub invariant-loop-k : goal.invariant-loop-k
invariant-loop-k l = (j : ℕ) (e : SeqEntry) → j < l.k → slice_get l.entries j ≡ Some e
    → Answers l.charges e l.rem l.starts l.need
    → ⊥
