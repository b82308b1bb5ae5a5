use Rattle.std.proofs.Common.{◌≡◌, ℕ, ◌<◌, ◌≤◌, Some}
use Rattle.std.specs.Prelude.{slice_get}
use Rattle.line_rules.specs.Balance.{all_tasks}
use Rattle.line_rules.specs.Entries.{HasAnswer}
use Rattle.line_rules.specs.declared.types.Entry.{Entry}
use Rattle.effic_search.proofs.counting.greatest_refuted.Given as goal

abbrev pub invariant-loop-k : goal.invariant-loop-k
invariant-loop-k l = (1 ≤ l.greatest → HasAnswer l.entries (all_tasks l.inst) l.stations l.greatest)
    × ((j : ℕ) (e : Entry) → j < l.k → slice_get l.entries j ≡ Some e → e.set ≡ all_tasks l.inst
    → l.stations ≤ e.most → e.cycle ≤ l.greatest)
