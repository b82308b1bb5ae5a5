use Rattle.std.proofs.Common.{◌≤◌}
use Rattle.pair_search.specs.Sharing.{IsTableOf}
use Rattle.tests_search.proofs.pair_searches.same_answers.Given as goal

abbrev pub invariant-loop-digits : goal.invariant-loop-digits
invariant-loop-digits l = record { few : l.same ≤ l.digits; table : IsTableOf l.inst l.table }
