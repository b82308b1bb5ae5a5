use Rattle.std.proofs.Common.{◌∙◌, ap, map}
use Rattle.timeline_drawing.specs.Visits.{course}
use Rattle.timeline_drawing.proofs.VisitFacts.{after_row}
use Rattle.timeline_drawing.proofs.visits.next_row.Goals as goal

pub returns-clause-starts : goal.returns-clause-starts
returns-clause-starts c =
    let a = c.args in
    let d = course a.mix.now a.balance.now a.sequence.now a.interval a.reach in
    after_row d a.unit c.in_ok-row.row.items _ c.in_ok-row.ensures.row
    (c.in_ok-starts.ensures ∙ ap (λ vs. map (λ v. v.next) vs) c.deref-2.ensures.value)
