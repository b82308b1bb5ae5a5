use Rattle.std.proofs.Common.{◌∙◌, ◌++◌, List, ℕ, ap, sym, arith, add-one, append_assoc, string_bytes}
use Rattle.timeline_drawing.specs.Drawing.{marks_text, marks_to}
use Rattle.timeline_drawing.specs.Figures.{station_sum}
use Rattle.timeline_drawing.proofs.drawing.push_marks.Goals as goal

pub loop-station-preserved : goal.loop-station-preserved
loop-station-preserved c = λ d same sums.
    let f = c.args.figures.now in
    let k : ℕ = c.loop-station.station in
    let old : List ℕ = string_bytes c.args.text.now in
    let so_far : List ℕ = string_bytes c.loop-station.text in
    let marks : List ℕ = marks_text f k (station_sum d k) in
    c.in_ok-push_station.ensures
    ∙ ap (λ (s : ℕ). so_far ++ marks_text f k s) (sums.sum k (omega (arith, same, c.loop-station-test.true)))
    ∙ ap (λ (t : List ℕ). t ++ marks) (c.loop-station.invariant d same sums)
    ∙ append_assoc old (marks_to d f k) marks
    ∙ ap (λ (n : ℕ). old ++ marks_to d f n) (sym (add-one k))
