use Rattle.std.proofs.Common.{◌≡◌, ◌≤◌, ◌+◌, ◌-◌, ◌*◌, length}
use Rattle.sequence_rules.specs.Entries.{units_of}
use Rattle.sequence_rules.specs.Trails.{frame_units, units_in}
use Rattle.sequence_search.specs.About.{charges_of}
use Rattle.sequence_search.specs.inner.Paths.{IsAlong, IsTop, IsBook}
use Rattle.sequence_search.specs.Work.{root_work, frame_work, frames_work}
use Rattle.sequence_search.specs.inner.Tries.{KeepsRoots}
use Rattle.sequence_search.proofs.trying.attempt.Given as goal

abbrev pub invariant-turns : goal.invariant-turns
invariant-turns g l = record {
  book : IsBook l.times l.interval l.reach g.about l.entries l.need;
  along : IsAlong l.times l.interval l.reach g.about l.need l.entries l.above;
  top : IsTop l.times l.interval l.reach g.about l.need l.entries l.above l.top;
  units : units_of (charges_of g.about) l.entries + (units_in l.above + frame_units l.top) ≡ units_of (charges_of g.about) l.fn.entries + l.used;
  roots : KeepsRoots l.times l.fn.entries l.entries;
  more : units_of (charges_of g.about) l.fn.entries ≤ units_of (charges_of g.about) l.entries;
  few : l.used ≤ l.room;
  work : l.used + (frames_work (length l.times.demands) l.above + frame_work (length l.times.demands) l.top)
      ≤ root_work l.times;
}

abbrev pub decreases-turns : goal.decreases-turns
decreases-turns g l = 2 * (l.room - l.used) + length l.above
