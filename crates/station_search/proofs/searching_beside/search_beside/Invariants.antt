use Rattle.std.proofs.Common.{◌≡◌, ◌+◌, ◌*◌, ◌-◌, ◌≤◌, None, length}
use Rattle.lemma_core.specs.Desks.{entries, Keeps}
use Rattle.station_search.specs.inner.Work.{IsBeside}
use Rattle.station_search.specs.inner.Steps.{IsReady}
use Rattle.station_search.specs.inner.Walks.{walks_left, all_left}
use Rattle.station_search.proofs.WalkStates.{IsWalking}
use Rattle.station_search.proofs.Tallies.{Outlay}
use Rattle.station_search.proofs.searching_beside.search_beside.Given as goal

abbrev pub invariant-search : goal.invariant-search
invariant-search g l = record {
  keeps : Keeps (g.D.Desk.desk l.fn.desk) (g.D.Desk.desk l.desk);
  pairs : l.pairs ≡ l.fn.pairs;
  units : l.units.used + l.units.left ≡ l.fn.units.used + l.fn.units.left;
  spent : l.fn.units.used ≤ l.units.used;
  walking : IsWalking None l.kind l.inst l.cycle (entries (g.D.Desk.desk l.desk)) l.set l.most
      l.standing.passed.items l.walks.items l.standing.frame l.walk;
  beside : IsBeside l.inst l.cycle l.standing.frame l.standing.listing;
  ready : IsReady l.inst l.cycle l.standing;
  outlay : Outlay None l.kind l.inst l.cycle (g.D.Desk.desk l.fn.desk) (g.D.Desk.desk l.desk)
      l.standing.passed.items l.standing.frame (l.units.used - l.fn.units.used) 0;
}

abbrev pub decreases-search : goal.decreases-search
decreases-search g l =
    3 * l.units.left + (length l.standing.passed.items + (walks_left l.walk + all_left l.walks.items))
