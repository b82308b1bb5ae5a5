use Rattle.std.proofs.Common.{◌≡◌, ◌≤◌}
use Rattle.std.specs.Prelude.{IfSome}
use Rattle.station_search.specs.Decide.{IsPairing}
use Rattle.line_seek.specs.Seeking.{IsSeeking}
use Rattle.line_seek.proofs.SeekFacts.{left_to_try}
use Rattle.line_seek.proofs.seeking.go_through.Given as goal

abbrev pub invariant-tries : goal.invariant-tries
invariant-tries l = record {
  about : l.seeker.scratch.about ≡ l.book.about;
  few : l.seeker.best.stations ≤ l.book.state.best.stations;
  within : l.seeker.used ≤ l.limit;
  seeking : IsSeeking 0 l.seeker;
  pairs : IfSome l.pairs (IsPairing l.inst l.book.about.kind l.book.about.cycle);
}

abbrev pub decreases-tries : goal.decreases-tries
decreases-tries l = left_to_try l.limit l.seeker
