use Rattle.std.proofs.Common.{◌≡◌, ◌≤◌}
use Rattle.line_rules.specs.Bounds.{greatest_below}
use Rattle.timeline_drawing.specs.Visits.{AreStarts, course, latest_of, row_of}
use Rattle.timeline_drawing.specs.Figures.{late_to}
use Rattle.timeline_drawing.proofs.figures.tally_of.Given as goal

abbrev pub invariant-loop-unit : goal.invariant-loop-unit
invariant-loop-unit l =
    let d = course l.mix l.balance l.sequence l.interval l.reach in
    record {
      starts : AreStarts d l.unit l.starts.items;
      latest : l.latest ≡ greatest_below l.unit (λ j. latest_of (row_of d j));
      late : l.late ≡ late_to d l.unit;
      few : l.late ≤ l.unit;
    }
