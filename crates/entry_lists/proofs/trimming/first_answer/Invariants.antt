use Rattle.std.proofs.Common.{◌≡◌, ◌<◌, ℕ, Some}
use Rattle.std.specs.Prelude.{slice_get}
use Rattle.line_rules.specs.Entries.{Answers}
use Rattle.line_rules.specs.declared.types.Entry.{Entry}
use Rattle.entry_lists.proofs.trimming.first_answer.Given as goal

abbrev pub invariant-loop-k : goal.invariant-loop-k
invariant-loop-k l = (j : ℕ) (e : Entry) → j < l.k → slice_get l.entries j ≡ Some e → Answers e l.set l.most l.cycle → ⊥
