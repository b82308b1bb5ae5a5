use Rattle.std.proofs.Common.{◌≡◌, ◌∙◌, ◌≤◌, ◌++◌, ℕ, List, ap, sym, subst, arith, string_bytes}
use Rattle.std.specs.Prelude.{All}
use Rattle.line_rules.specs.declared.types.Side.TheVariants.{Front, Back}
use Rattle.line_drawing.specs.declared.segments.Segment.{Segment}
use Rattle.line_drawing.specs.Segments.{end_of, segments_at, tasks_at}
use Rattle.line_drawing.specs.Notes.{note_of}
use Rattle.line_drawing.specs.Figures.{sum_at}
use Rattle.line_drawing.specs.Rows.{row_text}
use Rattle.line_drawing.proofs.ListedTasks.{both_sides}
use Rattle.line_drawing.proofs.SegmentFacts.{all_within}
use Rattle.line_drawing.proofs.drawing.push_station.Goals as goal

pub push_row-requires-clause-within : goal.push_row-requires-clause-within
push_row-requires-clause-within c =
    let line = c.args.inst.now in
    let places = c.args.places.now in
    let k : ℕ = c.args.station in
    let P : List Segment → Type 0 = λ ss. All (λ s. end_of s ≤ 800) ss in
    subst P (sym (c.deref-2.ensures.value ∙ c.in_ok-segments.ensures))
    (all_within line c.args.figures.now.cycle c.requires.figures.cycle (tasks_at line places Front k)
    (tasks_at line places Back k)
    (omega (arith, both_sides line c.tasks-tasks.ensures.line c.tasks-tasks.ensures.ranked places k, c.requires.fits)))

pub returns : goal.returns
returns c =
    let f = c.args.figures.now in
    let k : ℕ = c.args.station in
    let sum : ℕ = sum_at c.args.inst.now c.args.places.now k in
    let segments : List Segment = segments_at c.args.inst.now f.cycle c.args.places.now k in
    let same : c.deref-2.result.now ≡ segments = c.deref-2.ensures.value ∙ c.in_ok-segments.ensures in
    let noted : c.deref-3.result.now ≡ note_of segments =
    c.deref-3.ensures ∙ c.in_ok-note.ensures.text ∙ ap note_of (c.deref.ensures.value ∙ c.in_ok-segments.ensures) in
    let old : List ℕ = string_bytes c.args.text.now in
    c.in_ok-push_row.ensures
    ∙ ap (λ (t : ℕ). old ++ row_text f k t c.deref-2.result.now c.deref-3.result.now) c.sum_at-sum.ensures
    ∙ ap (λ (t : List Segment). old ++ row_text f k sum t c.deref-3.result.now) same
    ∙ ap (λ (t : List ℕ). old ++ row_text f k sum segments t) noted
