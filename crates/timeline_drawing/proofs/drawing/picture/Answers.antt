use Rattle.std.proofs.Common.{◌≡◌, List, ℕ, ap, sym, subst, string_bytes}
use Rattle.timeline_drawing.specs.Visits.{course}
use Rattle.timeline_drawing.specs.Figures.{AreSums}
use Rattle.timeline_drawing.specs.declared.figures.Figures.{Figures}
use Rattle.timeline_drawing.proofs.DrawingFacts.{whole}
use Rattle.timeline_drawing.proofs.drawing.picture.Goals as goal

pub returns : goal.returns
returns c =
    let a = c.args in
    let d = course a.mix.now a.balance.now a.sequence.now a.interval a.reach in
    let f = c.in_ok-figures.figures in
    let value : f ≡ _ = c.in_ok-figures.ensures.value in
    let P : List ℕ → Type 0 = λ xs. AreSums d xs in
    let text = whole d f value (string_bytes c.new-text.result) c.new-text.ensures.bytes c.in_ok-push_above.ensures
    c.in_ok-push_panels.ensures c.in_ok-push_rows.ensures
    (c.in_ok-push_marks.ensures d (sym (ap (λ (g : Figures). g.stations) value))
    (subst P (sym c.deref-3.ensures.value) c.in_ok-sums.ensures.each))
    c.in_ok-push_end.ensures in
    rw c.into_bytes.ensures.value text
