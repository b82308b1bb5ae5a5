use Rattle.std.proofs.Common.{◌≤◌, ◌≡◌, ℕ, length, Some}
use Rattle.std.specs.Prelude.{slice_get}
use Rattle.line_rules.specs.Entries.{Answers}
use Rattle.line_rules.specs.declared.types.Entry.{Entry}
use Rattle.lemma_core.proofs.plain_lookup.find_plain.Given as goal

abbrev pub invariant-loop-k : goal.invariant-loop-k
invariant-loop-k l = record {
  within : l.k ≤ length l.entries;
  above : (j : ℕ) (e : Entry) → l.k ≤ j → slice_get l.entries j ≡ Some e → Answers e l.set l.most l.cycle → ⊥;
}

abbrev pub decreases-loop-k : goal.decreases-loop-k
decreases-loop-k l = l.k
