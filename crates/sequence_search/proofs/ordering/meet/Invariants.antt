use Rattle.std.proofs.Common.{◌≡◌, ◌≤◌, ◌+◌, ◌-◌}
use Rattle.sequence_rules.specs.Entries.{units_of}
use Rattle.sequence_search.specs.About.{charges_of}
use Rattle.sequence_search.specs.Work.{AreTried}
use Rattle.sequence_search.specs.Outcomes.{IsStanding}
use Rattle.sequence_search.proofs.ordering.meet.Given as goal

abbrev pub invariant-tries : goal.invariant-tries
invariant-tries g l = record {
  standing : IsStanding l.times l.interval l.reach g.about l.standing.lower l.standing.upper l.standing.sequence
      l.standing.entries;
  charges : l.standing.charges ≡ g.about.charges;
  paid : l.paid ≡ units_of (charges_of g.about) g.about.kept;
  more : units_of (charges_of g.about) g.about.kept ≤ units_of (charges_of g.about) l.standing.entries;
  few : units_of (charges_of g.about) l.standing.entries ≤ units_of (charges_of g.about) g.about.kept + l.units;
  tried : AreTried l.times g.about l.standing.lower l.standing.upper l.standing.entries;
}

abbrev pub decreases-tries : goal.decreases-tries
decreases-tries g l = l.standing.upper - l.standing.lower

abbrev pub ghost-spent : goal.ghost-spent
ghost-spent g a = g.about

abbrev pub ghost-attempt : goal.ghost-attempt
ghost-attempt g a = g.about
