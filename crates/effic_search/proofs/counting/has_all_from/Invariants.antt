use Rattle.std.proofs.Common.{◌≡◌, ℕ, ◌<◌, ◌≤◌, Some}
use Rattle.std.specs.Prelude.{slice_get}
use Rattle.line_rules.specs.Balance.{all_tasks}
use Rattle.line_rules.specs.declared.types.Entry.{Entry}
use Rattle.effic_search.proofs.counting.has_all_from.Given as goal

abbrev pub invariant-loop-k : goal.invariant-loop-k
invariant-loop-k l = (j : ℕ) (e : Entry) → l.from ≤ j → j < l.k → slice_get l.entries j ≡ Some e
    → e.set ≡ all_tasks l.inst → ⊥
