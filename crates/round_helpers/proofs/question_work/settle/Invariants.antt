use Rattle.std.proofs.Common.{◌≡◌, ◌+◌, ◌-◌, ◌≤◌}
use Rattle.lemma_core.specs.Desks.{Keeps}
use Rattle.round_helpers.specs.inner.Works.{Works}
use Rattle.round_helpers.proofs.question_work.settle.Given as goal

abbrev pub invariant-asking : goal.invariant-asking
invariant-asking g l = record {
  keeps : Keeps (g.D.Desk.desk l.fn.desk) (g.D.Desk.desk l.desk);
  pairs : l.pairs ≡ l.fn.pairs;
  sum : l.units.used + l.units.left ≡ l.fn.units.used + l.fn.units.left;
  spent : l.fn.units.used ≤ l.units.used;
  works : Works l.inst l.question.cycle (g.D.Desk.desk l.fn.desk) (g.D.Desk.desk l.desk)
      (l.units.used - l.fn.units.used) (l.units.used - l.fn.units.used);
}
