use Rattle.std.proofs.Common.{◌∙◌, ◌-◌, Err, None, get_or, sym, ap, subst, arith}
use Rattle.std.specs.Option.{is_some as is_there}
use Rattle.std.proofs.lemmas.List.{length-set, get_or_read}
use Rattle.alb_reader.specs.inner.Fillings.{GivesTimes}
use Rattle.alb_reader.specs.declared.draft.TimeLine.{TimeLine}
use Rattle.alb_reader.proofs.StatedLines.{times_on, times_bad, times_again}
use Rattle.alb_reader.proofs.filling.given_times.Goals as goal

none : TimeLine
none = record { line = 0; task = 0; time = 0 }

pub returns-then-not-is_task-clause-given : goal.returns-then-not-is_task-clause-given
unfolding none
returns-then-not-is_task-clause-given c = λ under e.
    subst (λ x. GivesTimes c.args.tasks under (Err x)) (sym c.fault.ensures)
    (times_bad c.args.tasks c.args.lines.now under c.loop-k.k none e c.loop-k-test.true
    (sym c.is_task.ensures.value ∙ c.if-not-is_task.true) (c.loop-k.invariant.each under e).0)

pub returns-then-is_some-clause-given : goal.returns-then-is_some-clause-given
unfolding none
returns-then-is_some-clause-given c = λ under e.
    let q = c.loop-k.invariant.each under e in
    subst (λ x. GivesTimes c.args.tasks under (Err x)) (sym c.fault-then-is_some.ensures)
    (times_again c.args.tasks c.args.lines.now under c.loop-k.k none e c.loop-k-test.true c.loop-k.times.items
    (c.is_task.ensures.task c.if-not-is_task.false).0 (c.is_task.ensures.task c.if-not-is_task.false).1 q.1
    (sym (c.is_some.ensures ∙ ap is_there (get_or_read c.loop-k.times.items
    ((get_or c.args.lines.now c.loop-k.k none).task - 1) c.index.result.now
    (omega (arith, c.loop-k.invariant.many, c.is_task.ensures.task c.if-not-is_task.false)) c.index.ensures None))
    ∙ c.if-is_some.true) q.0)

pub loop-k-preserved : goal.loop-k-preserved
unfolding none
loop-k-preserved c = record {
  many = length-set c.loop-k.times.items _ _ ∙ c.loop-k.invariant.many;
  each = λ under e.
      let q = c.loop-k.invariant.each under e in
      times_on c.args.tasks c.args.lines.now under c.loop-k.k none e c.loop-k-test.true c.loop-k.times.items
      (c.is_task.ensures.task c.if-not-is_task.false).0 (c.is_task.ensures.task c.if-not-is_task.false).1
      (sym (c.is_some.ensures ∙ ap is_there (get_or_read c.loop-k.times.items
      ((get_or c.args.lines.now c.loop-k.k none).task - 1) c.index.result.now
      (omega (arith, c.loop-k.invariant.many, c.is_task.ensures.task c.if-not-is_task.false)) c.index.ensures None))
      ∙ c.if-is_some.false) q;
}
