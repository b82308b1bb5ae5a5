use Rattle.std.proofs.Common.{◌≡◌, ◌∙◌, List, ap, arith, length}
use Rattle.timeline_drawing.specs.Visits.{course, row_of}
use Rattle.timeline_drawing.specs.declared.visits.Visit.{Visit}
use Rattle.timeline_drawing.proofs.VisitFacts.{row_length}
use Rattle.timeline_drawing.proofs.figures.tally_of.Goals as goal

pub row_utility-requires-clause-few : goal.row_utility-requires-clause-few
row_utility-requires-clause-few c =
    let a = c.args in
    let d = course a.mix.now a.balance.now a.sequence.now a.interval a.reach in
    let is : c.deref-in-loop-unit.result.now ≡ row_of d c.loop-unit.unit =
    c.deref-in-loop-unit.ensures.value ∙ c.in_ok-row.ensures.row in
    omega (
      arith,
      ap (λ (vs : List Visit). length vs) is,
      row_length d c.loop-unit.unit a.balance.now.stations,
      c.requires.stations,
    )
