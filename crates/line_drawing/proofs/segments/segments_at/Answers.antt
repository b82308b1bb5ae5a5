use Rattle.std.proofs.Common.{◌∙◌, ◌≤◌, ℕ, List, sym, subst}
use Rattle.line_drawing.specs.Segments.{times_of}
use Rattle.line_drawing.proofs.ListedTasks.{back_fits, front_fits}
use Rattle.line_drawing.proofs.segments.segments_at.Goals as goal

pub push_fronts-requires-clause-fits : goal.push_fronts-requires-clause-fits
push_fronts-requires-clause-fits c =
    let P : List ℕ → Type 0 = λ is. times_of c.args.inst.now is ≤ c.args.cycle in
    subst P (sym (c.deref.ensures.value ∙ c.in_ok-front.ensures.tasks))
    (front_fits c.args.inst.now c.tasks-tasks.ensures.line c.tasks-tasks.ensures.ranked c.args.places.now c.args.station
    c.args.cycle c.requires.fits)

pub push_backs-requires-clause-fits : goal.push_backs-requires-clause-fits
push_backs-requires-clause-fits c =
    let P : List ℕ → Type 0 = λ is. times_of c.args.inst.now is ≤ c.args.cycle in
    subst P (sym (c.deref-2.ensures.value ∙ c.in_ok-back.ensures.tasks))
    (back_fits c.args.inst.now c.tasks-tasks.ensures.line c.tasks-tasks.ensures.ranked c.args.places.now c.args.station
    c.args.cycle c.requires.fits)
