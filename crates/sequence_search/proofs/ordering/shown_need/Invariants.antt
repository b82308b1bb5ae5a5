use Rattle.std.proofs.Common.{◌≡◌, ℕ, ◌<◌, ◌≤◌, Some}
use Rattle.std.specs.Prelude.{slice_get}
use Rattle.sequence_rules.specs.Entries.{Answers, HasAnswer}
use Rattle.sequence_values.specs.declared.types.SeqEntry.{SeqEntry}
use Rattle.sequence_search.proofs.ordering.shown_need.Given as goal

abbrev pub invariant-loop-k : goal.invariant-loop-k
invariant-loop-k l = record {
  shown : 0 < l.most → HasAnswer l.charges l.entries l.rem l.starts l.most;
  most : (j need : ℕ) (e : SeqEntry) → j < l.k → slice_get l.entries j ≡ Some e
      → Answers l.charges e l.rem l.starts need → need ≤ l.most;
}
