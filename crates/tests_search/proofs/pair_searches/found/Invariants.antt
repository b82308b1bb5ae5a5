use Rattle.std.proofs.Common.{◌≤◌}
use Rattle.pair_search.specs.Sharing.{IsTableOf}
use Rattle.tests_search.proofs.pair_searches.found.Given as goal

abbrev pub invariant-loop-most : goal.invariant-loop-most
invariant-loop-most l = record { few : l.refuted ≤ l.most; table : IsTableOf l.inst l.table }
