use Rattle.std.proofs.Common.{◌≡◌, ◌∙◌, ◌≤◌, ◌++◌, List, ℕ, ap, sym, subst, arith, length, string_bytes}
use Rattle.std.specs.Prelude.{All}
use Rattle.timeline_drawing.specs.Visits.{course, name_of, model_of, row_of, work_end}
use Rattle.timeline_drawing.specs.Figures.{scale_of}
use Rattle.timeline_drawing.specs.Rows.{row_text}
use Rattle.timeline_drawing.specs.declared.visits.Visit.{Visit}
use Rattle.timeline_drawing.specs.declared.figures.Figures.{Figures}
use Rattle.timeline_drawing.proofs.VisitFacts.{row_length}
use Rattle.timeline_drawing.proofs.FigureFacts.{row_fits}
use Rattle.timeline_drawing.proofs.DrawingFacts.{one_more}
use Rattle.timeline_drawing.proofs.drawing.push_rows.Goals as goal

pub push_row-requires-clause-few : goal.push_row-requires-clause-few
push_row-requires-clause-few c =
    let a = c.args in
    let d = course a.mix.now a.balance.now a.sequence.now a.interval a.reach in
    let is : c.deref.result.now ≡ row_of d c.loop-unit.unit = c.deref.ensures.value ∙ c.in_ok-row.ensures.row in
    omega (
      arith,
      ap (λ (vs : List Visit). length vs) is,
      row_length d c.loop-unit.unit a.balance.now.stations,
      ap (λ (f : Figures). f.stations) c.requires.drawn,
      c.requires.figures.stations,
    )

pub push_row-requires-clause-fits : goal.push_row-requires-clause-fits
push_row-requires-clause-fits c =
    let a = c.args in
    let d = course a.mix.now a.balance.now a.sequence.now a.interval a.reach in
    let j : ℕ = c.loop-unit.unit in
    let is : c.deref.result.now ≡ row_of d j = c.deref.ensures.value ∙ c.in_ok-row.ensures.row in
    let long : a.figures.now.scale ≡ scale_of d = ap (λ (f : Figures). f.scale) c.requires.drawn in
    let P : List Visit → Type 0 = λ vs. All (λ v. work_end v ≤ a.figures.now.scale) vs in
    let Q : ℕ → Type 0 = λ m. All (λ v. work_end v ≤ m) (row_of d j) in
    subst P (sym is) (subst Q (sym long) (row_fits d j (omega (arith, c.loop-unit-test.true))))

pub loop-unit-preserved : goal.loop-unit-preserved
loop-unit-preserved c =
    let a = c.args in
    let f = a.figures.now in
    let d = course a.mix.now a.balance.now a.sequence.now a.interval a.reach in
    let j : ℕ = c.loop-unit.unit in
    let is : c.deref.result.now ≡ row_of d j = c.deref.ensures.value ∙ c.in_ok-row.ensures.row in
    let so_far : List ℕ = string_bytes c.loop-unit.text in
    record {
      starts = c.in_ok-row.ensures.starts;
      text = one_more d f j (string_bytes a.text.now) c.loop-unit.invariant.text
          (c.in_ok-push_row.ensures
          ∙ ap (λ (n : List ℕ). so_far ++ row_text f n (model_of d j) j c.deref.result.now) c.name_of.ensures
          ∙ ap (λ (vs : List Visit). so_far ++ row_text f (name_of d j) (model_of d j) j vs) is);
    }
