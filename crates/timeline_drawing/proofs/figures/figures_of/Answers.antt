use Rattle.std.proofs.Common.{◌≡◌, ◌∙◌, ℕ, ap, arith, refl, length, decimal}
use Rattle.timeline_drawing.specs.Visits.{course}
use Rattle.timeline_drawing.specs.Figures.{longest_name, total_of}
use Rattle.timeline_drawing.proofs.FigureFacts.{same_figures}
use Rattle.timeline_drawing.proofs.figures.figures_of.Goals as goal

pub returns-clause-value : goal.returns-clause-value
returns-clause-value c =
    let a = c.args in
    let d = course a.mix.now a.balance.now a.sequence.now a.interval a.reach in
    let name : c.longest_name.result ≡ longest_name d = c.longest_name.ensures.name d refl refl in
    let digits : c.digits.result ≡ length (decimal (total_of d)) =
    c.digits.ensures.digits ∙ ap (λ (n : ℕ). length (decimal n)) c.requires.total in
    same_figures d.balance.stations (length d.units) d.interval d.reach c.in_ok-tally.ensures.scale c.requires.total
    c.in_ok-tally.ensures.late (omega (arith, name)) (omega (arith, name, digits, c.from.ensures))
