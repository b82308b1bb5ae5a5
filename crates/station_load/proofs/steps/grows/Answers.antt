use Rattle.std.proofs.Common.{◌∙◌, sym, ap, inl, inr, arith}
use Rattle.std.proofs.lemmas.Bool.{false≢true}
use Rattle.line_instance.specs.Line.{has}
use Rattle.line_rules.proofs.JoinTests.{may_where_room, room_where_may}
use Rattle.line_rules.proofs.WalkTurns.{taken_here}
use Rattle.station_load.proofs.PlaceTests.{none_there, none_at_all}
use Rattle.station_load.proofs.steps.grows.Goals as goal
use Rattle.station_load.proofs.steps.grows.Goals.{else-time-cycle-via-then-time-cycle+then-not-has+else-goes_with}
use Rattle.station_load.proofs.steps.grows.Goals.{else-time-cycle-via-then-time-cycle+else-not-has}
use Rattle.station_load.proofs.steps.grows.Goals.{else-time-cycle-via-else-time-cycle}

pub returns-then-goes_with-clause-some : goal.returns-then-goes_with-clause-some
returns-then-goes_with-clause-some c = λ e.
    let filled = sym c.fills.ensures ∙ c.if-not-fills.false in
    let kept = c.requires.kept filled in
    let found = c.go_down.ensures.some c.loop-side-test.true in
    let is = c.task_at-task.ensures.task in
    let with_it = c.goes_with.ensures.0 c.if-goes_with.true in (
      c.task_at-task.result,
      filled,
      may_where_room kept c.args.cycle c.args.other.now c.requires.sum c.task_at-task.result c.requires.fits
          (elim ((kept.marked.is c.go_down.new.left.below).0 found.member).1 [
            | inl h ↦ absurd (false≢true (sym c.if-not-has.true
                ∙ (c.has.ensures ∙ (ap (λ t. has c.args.end.now.tasks t) is ∙ h))))
            | inr f ↦ ap (λ t. has c.args.end.now.free t) is ∙ f
          ])
          (with_it.0) (record { time = omega (arith, c.time.ensures.time, c.if-time-cycle.true); parted = with_it.1 }),
    )

pub loop-side-preserved : goal.loop-side-preserved
loop-side-preserved c =
    let kept = c.requires.kept (sym c.fills.ensures ∙ c.if-not-fills.false) in
    record {
      none = none_there kept c.args.cycle c.args.other.now c.loop-side.invariant.none
          (c.go_down.ensures.some c.loop-side-test.true) c.task_at-task.ensures.task (λ may.
          let r = room_where_may kept c.args.cycle c.args.other.now c.requires.sum c.task_at-task.result may in
          elim c.else-time-cycle.branch [
            | else-time-cycle-via-then-time-cycle+then-not-has+else-goes_with w ↦
                false≢true (sym w.if-goes_with.false ∙ w.goes_with.ensures.1 (r.0, r.1.parted))
            | else-time-cycle-via-then-time-cycle+else-not-has w ↦
                false≢true (sym may.new ∙ taken_here c.args.side c.args.end.now.tasks c.args.other.now
                c.task_at-task.result (sym w.has.ensures ∙ w.if-not-has.false))
            | else-time-cycle-via-else-time-cycle w ↦
                omega (arith, r.1.time, c.time.ensures.time, w.if-time-cycle.false)
          ]);
      left = c.go_down.ensures.left c.loop-side-test.true;
    }

pub returns-clause-none : goal.returns-clause-none
returns-clause-none c = λ e i f may.
    none_at_all (c.requires.kept (sym c.fills.ensures ∙ c.if-not-fills.false)) c.args.cycle c.args.other.now
    c.tasks.ensures.ranked c.requires.set c.loop-side.invariant.none (c.go_down.ensures.none c.loop-side-test.false) i
    may
