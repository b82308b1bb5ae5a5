use Rattle.std.proofs.Common.{◌∙◌, sym, refl, arith}
use Rattle.std.proofs.lemmas.Bool.{false≢true}
use Rattle.line_rules.proofs.QuickWalk.{advance_start, time_within, gave_up, next_here, sum_here, passed, no_place}
use Rattle.station_load.proofs.EachStart.{from_each}
use Rattle.station_load.proofs.LeftFacts.{left_kept}
use Rattle.station_load.proofs.steps.go_over.Goals as goal
use Rattle.station_load.proofs.steps.go_over.Goals.{else-time-cycle-via-then-time-cycle+else-goes_with}
use Rattle.station_load.proofs.steps.go_over.Goals.{else-time-cycle-via-else-time-cycle}

pub loop-side-init : goal.loop-side-init
loop-side-init c = record {
  walk = from_each c.requires.scan (λ base scan. advance_start
      (c.all_below-left.ensures.below ∙ c.tasks.ensures.tasks) scan refl c.requires.filled c.requires.kept
      c.requires.sum);
  left = c.all_below-left.ensures.left;
}

pub overflow_sub-sum : goal.overflow_sub-sum
overflow_sub-sum c = time_within (c.loop-side.invariant.walk.each c.requires.scan.0 c.requires.scan.1)
    (c.go_down.ensures.some c.loop-side-test.true) c.task_at-task.ensures.task c.has.ensures c.if-has.true c.time.ensures.time

pub loop-side-preserved-then-has : goal.loop-side-preserved-then-has
loop-side-preserved-then-has c =
    let found = c.go_down.ensures.some c.loop-side-test.true in
    let at = c.loop-side.invariant.walk.each c.requires.scan.0 c.requires.scan.1 in
    record {
      walk = from_each c.requires.scan (λ base scan. gave_up (c.loop-side.invariant.walk.each base scan)
          found c.task_at-task.ensures.task c.has.ensures c.if-has.true c.give_up.ensures.tasks c.give_up.ensures.free
          c.give_up.ensures.marked c.time.ensures.time);
      left = left_kept at.scan.ranked (c.go_down.ensures.left c.loop-side-test.true) at.kept.marked
          c.give_up.ensures.marked (omega (arith, found.below, at.low)) c.task_at-task.ensures.task
          c.give_up.ensures.tasks c.give_up.ensures.free;
    }

pub returns-then-goes_with-clause-joined : goal.returns-then-goes_with-clause-joined
returns-then-goes_with-clause-joined c = λ e base scan.
    let with_it = c.goes_with.ensures.0 c.if-goes_with.true in
    next_here (c.loop-side.invariant.walk.each base scan) (c.go_down.ensures.some c.loop-side-test.true) c.task_at-task.ensures.task c.has.ensures
    c.if-has.false (sym with_it.0) refl
    (record { time = omega (arith, c.time-else-has.ensures.time, c.if-time-cycle.true); parted = with_it.1 })
    refl c.requires.filled c.take_in.ensures.tasks

pub returns-then-goes_with-clause-sum : goal.returns-then-goes_with-clause-sum
returns-then-goes_with-clause-sum c =
    let with_it = c.goes_with.ensures.0 c.if-goes_with.true in
    sum_here (c.loop-side.invariant.walk.each c.requires.scan.0 c.requires.scan.1) (c.go_down.ensures.some c.loop-side-test.true)
    c.task_at-task.ensures.task c.has.ensures c.if-has.false (sym with_it.0) refl
    (record { time = omega (arith, c.time-else-has.ensures.time, c.if-time-cycle.true); parted = with_it.1 })
    c.take_in.ensures.tasks c.time-then-goes_with.ensures.time

pub loop-side-preserved : goal.loop-side-preserved
loop-side-preserved c = record {
  walk = from_each c.requires.scan (λ base scan.
      passed (c.loop-side.invariant.walk.each base scan) (c.go_down.ensures.some c.loop-side-test.true)
      c.task_at-task.ensures.task c.has.ensures c.if-has.false (λ away room. elim c.else-time-cycle.branch [
        | else-time-cycle-via-then-time-cycle+else-goes_with w ↦
            false≢true (sym w.if-goes_with.false ∙ w.goes_with.ensures.1 (away, room.parted))
        | else-time-cycle-via-else-time-cycle w ↦
            omega (arith, room.time, c.time-else-has.ensures.time, w.if-time-cycle.false)
      ]));
  left = c.go_down.ensures.left c.loop-side-test.true;
}

pub returns-clause-passed : goal.returns-clause-passed
returns-clause-passed c = λ e base scan. no_place (c.loop-side.invariant.walk.each base scan)
    (c.go_down.ensures.none c.loop-side-test.false)
