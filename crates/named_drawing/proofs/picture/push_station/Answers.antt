use Rattle.std.proofs.Common.{◌≡◌, ◌∙◌, ◌<◌, ◌≤◌, ◌++◌, ℕ, List, length, ap, sym, subst, arith, string_bytes}
use Rattle.std.specs.Prelude.{All}
use Rattle.line_rules.specs.declared.types.Side.TheVariants.{Front, Back}
use Rattle.line_drawing.specs.declared.segments.Segment.{Segment}
use Rattle.line_drawing.specs.Segments.{end_of, segments_at, tasks_at}
use Rattle.line_drawing.specs.Figures.{sum_at}
use Rattle.line_drawing.proofs.ListedTasks.{both_sides}
use Rattle.line_drawing.proofs.SegmentFacts.{all_within}
use Rattle.named_drawing.specs.Labels.{named_note}
use Rattle.named_drawing.specs.NamedRows.{named_row}
use Rattle.named_drawing.proofs.RowFacts.{segments_named}
use Rattle.named_drawing.proofs.picture.push_station.Goals as goal

pub named_note-requires : goal.named_note-requires
named_note-requires c =
    let P : List Segment → Type 0 = λ ss. All (λ s. s.task < length c.args.names.now) ss in
    subst P (sym (c.deref.ensures.value ∙ c.in_ok-segments.ensures))
    (segments_named c.args.inst.now c.tasks-tasks.ensures.line c.tasks-tasks.ensures.ranked c.args.places.now
    c.args.station c.args.figures.now.cycle (length c.args.names.now) c.requires.named)

pub push_named_row-requires-clause-named : goal.push_named_row-requires-clause-named
push_named_row-requires-clause-named c =
    let P : List Segment → Type 0 = λ ss. All (λ s. s.task < length c.args.names.now) ss in
    subst P (sym (c.deref-2.ensures.value ∙ c.in_ok-segments.ensures))
    (segments_named c.args.inst.now c.tasks-tasks.ensures.line c.tasks-tasks.ensures.ranked c.args.places.now
    c.args.station c.args.figures.now.cycle (length c.args.names.now) c.requires.named)

pub push_named_row-requires-clause-within : goal.push_named_row-requires-clause-within
push_named_row-requires-clause-within c =
    let line = c.args.inst.now in
    let places = c.args.places.now in
    let k : ℕ = c.args.station in
    let P : List Segment → Type 0 = λ ss. All (λ s. end_of s ≤ 800) ss in
    subst P (sym (c.deref-2.ensures.value ∙ c.in_ok-segments.ensures))
    (all_within line c.args.figures.now.cycle c.requires.figures.cycle (tasks_at line places Front k)
    (tasks_at line places Back k)
    (omega (arith, both_sides line c.tasks-tasks.ensures.line c.tasks-tasks.ensures.ranked places k, c.requires.fits)))

pub returns : goal.returns
returns c =
    let f = c.args.figures.now in
    let names : List (List ℕ) = c.args.names.now in
    let k : ℕ = c.args.station in
    let sum : ℕ = sum_at c.args.inst.now c.args.places.now k in
    let segments : List Segment = segments_at c.args.inst.now f.cycle c.args.places.now k in
    let same : c.deref-2.result.now ≡ segments = c.deref-2.ensures.value ∙ c.in_ok-segments.ensures in
    let noted : c.deref-3.result.now ≡ named_note names segments =
    c.deref-3.ensures ∙ c.in_ok-note.ensures.text
    ∙ ap (named_note names) (c.deref.ensures.value ∙ c.in_ok-segments.ensures) in
    let old : List ℕ = string_bytes c.args.text.now in
    c.in_ok-push_named_row.ensures
    ∙ ap (λ (t : ℕ). old ++ named_row f names k t c.deref-2.result.now c.deref-3.result.now) c.sum_at-sum.ensures
    ∙ ap (λ (t : List Segment). old ++ named_row f names k sum t c.deref-3.result.now) same
    ∙ ap (λ (t : List ℕ). old ++ named_row f names k sum segments t) noted
