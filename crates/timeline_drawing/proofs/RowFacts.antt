-- The sum of a unit, said of equal numbers.
use Rattle.std.proofs.Common.{◌≡◌, ◌∙◌, ◌++◌, ℕ, List, ap}
use Rattle.timeline_drawing.specs.Parts.{text_of}
use Rattle.timeline_drawing.specs.Rows.{sum_parts}
use Rattle.timeline_drawing.specs.declared.figures.Figures.{Figures}

pub with_sum : (f : Figures) (t : List ℕ) {u w : ℕ} {x : List ℕ} → u ≡ w → x ≡ t ++ text_of (sum_parts f u)
    → x ≡ t ++ text_of (sum_parts f w)
with_sum f t {u} {w} {x} e p = p ∙ ap (λ (n : ℕ). t ++ text_of (sum_parts f n)) e
