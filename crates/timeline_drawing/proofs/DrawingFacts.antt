-- The whole text, and one row more.
use Rattle.std.proofs.Common.{◌≡◌, ◌∙◌, ◌+◌, ◌++◌, ℕ, List, [], length, ap, sym, add-one, append_assoc}
use Rattle.timeline_drawing.specs.Visits.{Course}
use Rattle.timeline_drawing.specs.Figures.{figures_of}
use Rattle.timeline_drawing.specs.Drawing.{above_text, end_text, marks_to, panels_to, picture_text, rows_to}
use Rattle.timeline_drawing.specs.Drawing.{timeline_text, unit_text}
use Rattle.timeline_drawing.specs.declared.figures.Figures.{Figures}
use Rattle.timeline_drawing.proofs.Chains.{five}

pub one_more : (d : Course) (f : Figures) (j : ℕ) (old : List ℕ) {t u : List ℕ} → t ≡ old ++ rows_to d f j
    → u ≡ t ++ unit_text d f j
    → u ≡ old ++ rows_to d f (j + 1)
one_more d f j old p q =
    q ∙ ap (λ (t : List ℕ). t ++ unit_text d f j) p ∙ append_assoc old (rows_to d f j) (unit_text d f j)
    ∙ ap (λ (n : ℕ). old ++ rows_to d f n) (sym (add-one j))

pub whole : (d : Course) (f : Figures) → f ≡ figures_of d → (old : List ℕ) → old ≡ [] → {t u v w x : List ℕ}
    → t ≡ old ++ above_text f → u ≡ t ++ panels_to f f.stations → v ≡ u ++ rows_to d f (length d.units)
    → w ≡ v ++ marks_to d f f.stations → x ≡ w ++ end_text f
    → x ≡ timeline_text d
whole d f e old empty {t} {u} p q r s l =
    let units : length d.units ≡ f.units = sym (ap (λ (g : Figures). g.units) e) in
    five old (above_text f) (panels_to f f.stations) (rows_to d f f.units) (marks_to d f f.stations) (end_text f) p q
    (r ∙ ap (λ (n : ℕ). u ++ rows_to d f n) units) s l
    ∙ ap (λ (o : List ℕ). o ++ picture_text d f) empty
    ∙ ap (λ (g : Figures). picture_text d g) e
