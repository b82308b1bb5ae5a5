use Rattle.std.proofs.Common.{◌≡◌, ◌++◌, string_bytes}
use Rattle.timeline_drawing.specs.Visits.{AreStarts, course}
use Rattle.timeline_drawing.specs.Drawing.{rows_to}
use Rattle.timeline_drawing.proofs.drawing.push_rows.Given as goal

abbrev pub invariant-loop-unit : goal.invariant-loop-unit
invariant-loop-unit l =
    let d = course l.mix l.balance l.sequence l.interval l.reach in
    record {
      starts : AreStarts d l.unit l.starts.items;
      text : string_bytes l.text ≡ string_bytes l.fn.text ++ rows_to d l.figures l.unit;
    }
