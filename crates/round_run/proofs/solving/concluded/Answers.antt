use Rattle.std.proofs.Common.{Option, refl, subst}
use Rattle.round_run.specs.inner.Questions.{HasAsked}
use Rattle.round_run.specs.declared.questions.Stop.{Stop}
use Rattle.round_run.proofs.Endings.{solves, stops_by}
use Rattle.round_run.proofs.solving.concluded.Goals as goal

pub returns-in-None : goal.returns-in-None
returns-in-None c = λ before top plan helpers few alone h.
    let P : Option Stop → Type 0 =
    λ z. HasAsked c.args.asked.book.about.kind c.args.inst.now c.args.asked.book.about.cycle before top plan.units
    helpers c.args.first (record { book = c.args.asked.book; lower = c.args.asked.lower; stop = z }) in
    solves c.args.asked.book.about.kind c.args.inst.now c.args.asked.book.about.cycle before top plan.units helpers
    c.args.first c.args.asked.lower
    c.args.asked.book c.show_lower.new.book plan c.tasks-tasks.ensures.line c.tasks-tasks.ensures.ranked
    c.requires.cycle.some c.requires.first c.requires.fits c.show_lower.ensures.adds c.len-len.ensures.kept
    c.in-Ok.ensures.shown refl few alone (subst P c.in-None.is h)

pub returns-in-Some : goal.returns-in-Some
returns-in-Some c = λ before top plan helpers few alone h.
    let P : Option Stop → Type 0 =
    λ z. HasAsked c.args.asked.book.about.kind c.args.inst.now c.args.asked.book.about.cycle before top plan.units
    helpers c.args.first (record { book = c.args.asked.book; lower = c.args.asked.lower; stop = z }) in
    stops_by c.args.asked.book.about.kind c.args.inst.now c.args.asked.book.about.cycle before top plan.units helpers
    c.args.first c.args.asked.lower
    c.args.asked.book c.show_lower.new.book plan c.tasks-tasks.ensures.line c.tasks-tasks.ensures.ranked
    c.requires.cycle.some c.requires.first c.requires.fits c.show_lower.ensures.adds c.len-len.ensures.kept
    c.in-Ok.ensures.shown refl few alone c.in-Some.stop.cause c.in-Some.stop.trail (subst P c.in-Some.is h)
