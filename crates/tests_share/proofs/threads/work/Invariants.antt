use Rattle.std.proofs.Common.{◌≡◌}
use Rattle.book_share.specs.Calls.{IsPassOf}
use Rattle.tests_share.proofs.threads.work.Given as goal

abbrev pub invariant-loop : goal.invariant-loop
invariant-loop g l = record {
  pass : IsPassOf l.share l.pass;
  about : l.pass.view.base ≡ l.fn.pass.view.base;
}
