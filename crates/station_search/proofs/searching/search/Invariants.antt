use Rattle.std.proofs.Common.{◌≡◌, ◌+◌, ◌*◌, ◌-◌, ◌≤◌, length}
use Rattle.lemma_core.specs.Desks.{entries, Keeps}
use Rattle.station_search.specs.inner.Work.{IsBeside}
use Rattle.station_search.specs.inner.Steps.{IsReady}
use Rattle.station_search.proofs.States.{IsSearching}
use Rattle.station_search.proofs.Tallies.{Tally}
use Rattle.station_search.proofs.searching.search.Given as goal

abbrev pub invariant-search : goal.invariant-search
invariant-search g l = record {
  keeps : Keeps (g.D.Desk.desk l.fn.desk) (g.D.Desk.desk l.desk);
  pairs : l.pairs ≡ l.fn.pairs;
  units : l.units.used + l.units.left ≡ l.fn.units.used + l.fn.units.left;
  spent : l.fn.units.used ≤ l.units.used;
  searching : IsSearching l.mode l.kind l.inst l.cycle (entries (g.D.Desk.desk l.desk)) l.set l.most l.standing.passed.items
      l.standing.frame;
  beside : IsBeside l.inst l.cycle l.standing.frame l.standing.listing;
  ready : IsReady l.inst l.cycle l.standing;
  tally : Tally l.mode l.kind l.inst l.cycle (g.D.Desk.desk l.fn.desk) (g.D.Desk.desk l.desk)
      l.standing.passed.items l.standing.frame (l.units.used - l.fn.units.used) 0;
}

abbrev pub decreases-search : goal.decreases-search
decreases-search g l = 2 * l.units.left + length l.standing.passed.items
