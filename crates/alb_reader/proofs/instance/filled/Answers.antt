use Rattle.std.proofs.Common.{◌∙◌, sym, subst}
use Rattle.line_instance.specs.Made.{AreTimes}
use Rattle.line_instance.specs.Walks.{AreArcs}
use Rattle.alb_reader.specs.Sections.{under}
use Rattle.alb_reader.specs.inner.Making.{IsFillRead}
use Rattle.alb_reader.specs.declared.mark.Section.TheVariants.{Times, Pairs}
use Rattle.alb_reader.proofs.DraftToLine.{times_refused, times_read, arcs_read, times_many, times_right, arcs_right}
use Rattle.alb_reader.proofs.DraftToLine.{tasks_some, made_is}
use Rattle.alb_reader.proofs.instance.filled.Goals as goal

pub returns-in-Err-clause-read : goal.returns-in-Err-clause-read
returns-in-Err-clause-read c = λ head h t.
    subst (IsFillRead head c.args.end c.args.tasks) (sym c.refused.ensures)
    (times_refused head c.args.draft.now c.args.tasks c.args.end c.deref.result.now c.in-Err.error h
    c.deref.ensures.value c.in-Err.ensures)

pub made-requires-clause-times : goal.made-requires-clause-times
made-requires-clause-times c =
    let h = c.requires in
    let q = times_read h.0 c.args.draft.now c.args.tasks c.args.end c.deref.result.now c.in-Ok.times h.1
    c.deref.ensures.value c.in-Ok.ensures in
    let s = tasks_some h.0 c.args.draft.now c.args.tasks h.1 h.2 in
    subst AreTimes (sym q.2) (times_right c.args.tasks (under Times h.0) s.0 s.1)

pub made-requires-clause-arcs : goal.made-requires-clause-arcs
made-requires-clause-arcs c =
    let h = c.requires in
    let q = times_read h.0 c.args.draft.now c.args.tasks c.args.end c.deref.result.now c.in-Ok.times h.1
    c.deref.ensures.value c.in-Ok.ensures in
    let a = arcs_read h.0 c.args.draft.now c.args.tasks c.deref-2.result.now c.in-Ok-arcs_of.arcs h.1
    c.deref-2.ensures.value c.in-Ok-arcs_of.ensures in
    subst (λ n. AreArcs n c.deref-3.result.now) (sym (times_many c.args.tasks h.0 c.in-Ok.times.items q.2))
    (subst (AreArcs c.args.tasks) (sym (c.deref-3.ensures.value ∙ a.1)) (arcs_right c.args.tasks (under Pairs h.0) a.0))

pub returns-clause-read : goal.returns-clause-read
returns-clause-read c = λ head h t.
    let q = times_read head c.args.draft.now c.args.tasks c.args.end c.deref.result.now c.in-Ok.times h
    c.deref.ensures.value c.in-Ok.ensures in
    let a = arcs_read head c.args.draft.now c.args.tasks c.deref-2.result.now c.in-Ok-arcs_of.arcs h
    c.deref-2.ensures.value c.in-Ok-arcs_of.ensures in
    made_is head c.args.draft.now c.args.tasks c.args.end c.in-Ok.times.items c.deref-3.result.now c.made.result h
    (record { timed = q.0; named = q.1; paired = a.0 }) q.2 (c.deref-3.ensures.value ∙ a.1) c.made.ensures
