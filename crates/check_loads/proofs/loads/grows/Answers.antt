use Rattle.std.proofs.Common.{◌∙◌, sym, refl, arith}
use Rattle.std.proofs.lemmas.Bool.{false≢true}
use Rattle.line_rules.proofs.JoinTests.{none_start, none_turn, none_end, free_where_may, may_where_room, room_where_may}
use Rattle.check_loads.proofs.loads.grows.Goals as goal
use Rattle.check_loads.proofs.loads.grows.Goals.{else-not-has-via-then-not-has+else-fits, else-not-has-via-else-not-has}

pub loop-task-init : goal.loop-task-init
loop-task-init c = none_start c.requires.set c.tasks-below.ensures.tasks

pub greatest_below-requires : goal.greatest_below-requires
greatest_below-requires c = omega (arith, c.tasks-below.ensures.line.small, c.loop-task.invariant.low)

pub returns-then-fits-clause-some : goal.returns-then-fits-clause-some
returns-then-fits-clause-some c = λ e. (
  c.in-Some.task,
  sym c.fills.ensures ∙ c.if-not-fills.false,
  may_where_room (c.requires.kept (sym c.fills.ensures ∙ c.if-not-fills.false)) c.args.cycle c.args.other.now
      c.requires.sum c.in-Some.task c.requires.fits
      (c.in-Some.ensures.some.member) (sym c.has.ensures ∙ c.if-not-has.true) (c.fits.ensures.0 c.if-fits.true),
)

pub loop-task-preserved : goal.loop-task-preserved
loop-task-preserved c =
    none_turn c.args.end.now.free c.loop-task.invariant (free_where_may
    (c.requires.kept (sym c.fills.ensures ∙ c.if-not-fills.false)) c.args.cycle c.args.other.now)
    c.in-Some.ensures.some (λ may.
    let r = room_where_may (c.requires.kept (sym c.fills.ensures ∙ c.if-not-fills.false)) c.args.cycle c.args.other.now
    c.requires.sum c.in-Some.task may in
    elim c.else-not-has.branch [
      | else-not-has-via-then-not-has+else-fits w ↦ false≢true (sym w.if-fits.false ∙ w.fits.ensures.1 r.1)
      | else-not-has-via-else-not-has w ↦ false≢true (sym r.0 ∙ (sym c.has.ensures ∙ w.if-not-has.false))
    ])

pub returns-clause-none : goal.returns-clause-none
returns-clause-none c = λ e i f may.
    none_end c.args.end.now.free c.loop-task.invariant (free_where_may
    (c.requires.kept (sym c.fills.ensures ∙ c.if-not-fills.false)) c.args.cycle c.args.other.now)
    (c.in_default.ensures.none.0 refl) i may
