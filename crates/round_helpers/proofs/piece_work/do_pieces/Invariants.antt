use Rattle.std.proofs.Common.{◌≡◌, ◌+◌, ◌-◌, ◌≤◌, IfSome}
use Rattle.lemma_core.specs.Desks.{Keeps}
use Rattle.station_search.specs.Decide.{IsPairing}
use Rattle.steal_pool.specs.Hands.{IsHandOf}
use Rattle.round_helpers.specs.inner.Works.{Works}
use Rattle.round_helpers.proofs.piece_work.do_pieces.Given as goal

abbrev pub invariant-working : goal.invariant-working
invariant-working g l = record {
  keeps : Keeps (g.D.Desk.desk l.fn.desk) (g.D.Desk.desk l.desk);
  pairs : IfSome l.pairs (IsPairing l.inst l.question.kind l.question.cycle);
  sum : l.units.used + l.units.left ≡ l.fn.units.used + l.fn.units.left;
  spent : l.fn.units.used ≤ l.units.used;
  works : Works l.inst l.question.cycle (g.D.Desk.desk l.fn.desk) (g.D.Desk.desk l.desk)
      (l.units.used - l.fn.units.used) (l.units.used - l.fn.units.used);
  hand : IsHandOf l.pool l.hand;
}
