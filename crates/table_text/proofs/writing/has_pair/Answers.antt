use Rattle.std.proofs.Common.{arith, sym}
use Rattle.table_text.proofs.WritingFacts.{no_pair_found, pair_found}
use Rattle.table_text.proofs.writing.has_pair.Goals as goal

pub returns-then-not-is_empty : goal.returns-then-not-is_empty
returns-then-not-is_empty c = sym (pair_found c.args.inst.now c.loop-task.task c.apart.result.now c.is_empty.result
    c.tasks-task-end.ensures.line (omega (arith, c.loop-task-test.true, c.tasks-task-end.ensures.tasks))
    c.apart.ensures.row c.is_empty.ensures (cc))

pub returns : goal.returns
returns c = sym (no_pair_found c.args.inst.now (λ j l. c.loop-task.invariant j
    (omega (arith, l, c.loop-task-test.false, c.tasks-task-end.ensures.tasks))))
