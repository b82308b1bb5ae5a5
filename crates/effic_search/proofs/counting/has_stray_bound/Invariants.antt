use Rattle.std.proofs.Common.{◌≡◌, ℕ, ◌+◌, ◌<◌, ◌≤◌, take, Some}
use Rattle.std.specs.Prelude.{slice_get}
use Rattle.line_rules.specs.Balance.{all_tasks}
use Rattle.line_rules.specs.declared.types.Entry.{Entry}
use Rattle.line_rules.specs.declared.types.Why.TheVariants as why
use Rattle.effic_search.specs.Counted.{bounds}
use Rattle.effic_search.proofs.counting.has_stray_bound.Given as goal

abbrev pub invariant-loop-k : goal.invariant-loop-k
invariant-loop-k l = ((j : ℕ) (e : Entry) → l.from ≤ j → j < l.k → slice_get l.entries j ≡ Some e
    → e.why ≡ why.Bound → e.set ≡ all_tasks l.inst)
    × (bounds (take l.k l.entries) ≡ bounds (take l.from l.entries) + l.found) × (l.found ≤ l.k)
