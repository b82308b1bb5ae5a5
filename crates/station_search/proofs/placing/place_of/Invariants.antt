use Rattle.std.proofs.Common.{◌≡◌, ℕ, ◌<◌, Some}
use Rattle.std.specs.Prelude.{slice_get}
use Rattle.line_instance.specs.Truths.{In}
use Rattle.line_rules.specs.Loads.{taken}
use Rattle.line_rules.specs.declared.types.Load.{Load}
use Rattle.station_search.proofs.placing.place_of.Given as goal

abbrev pub invariant-loop-k : goal.invariant-loop-k
invariant-loop-k l = (j : ℕ) (a : Load) → j < l.k → slice_get l.loads j ≡ Some a → In (taken a) l.task → ⊥
