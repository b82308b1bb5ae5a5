use Rattle.std.proofs.Common.{ℕ, List, string_bytes, ap, arith}
use Rattle.line_rules.specs.declared.types.Balance.{Balance as Assignment}
use Rattle.command_solve.specs.Effort.{first_plan}
use Rattle.command_solve.proofs.TurnFacts.{best_ranked, found_first, first_few, first_leaves}
use Rattle.command_solve.proofs.solution.take_turns.Goals as goal

pub optimal-requires-clause-solved : goal.optimal-requires-clause-solved
optimal-requires-clause-solved g c =
    let a = c.args in
    let taken = c.in_ok-taken.taken in
    let ready = c.in_ok-taken.ensures in
    let solved = c.in-Solved.ensures a.kind a.cycle a.olds ready in (
      taken.book.state.entries,
      first_plan a.effort.first a.plan.now,
      first_leaves a.kind a.inst.now a.cycle a.plan.now a.olds taken (string_bytes taken.first) ready a.effort.first
          c.requires.effort.first,
      solved.1,
    )

pub returns-in_ok-optimal-in-Solved-clause-answer : goal.returns-in_ok-optimal-in-Solved-clause-answer
returns-in_ok-optimal-in-Solved-clause-answer g c =
    let a = c.args in
    let taken = c.in_ok-taken.taken in
    let ready = c.in_ok-taken.ensures in
    let said : List ℕ = string_bytes taken.first in
    let first = a.effort.first in
    let small = c.requires.effort.first in
    let plan = first_plan first a.plan.now in
    let before = taken.book.state.entries in
    let solved = c.in-Solved.ensures a.kind a.cycle a.olds ready in
    let leaves = first_leaves a.kind a.inst.now a.cycle a.plan.now a.olds taken said ready first small in
    let few = first_few a.kind a.inst.now a.cycle a.plan.now a.olds taken said ready first small in
    found_first a.kind a.inst.now a.cycle a.plan.now a.olds taken said ready a.naming.now a.effort _ _ _ _ solved.0
    solved.2 (c.in_ok-optimal-in-Solved.ensures before plan leaves few solved.1)

pub returns-in_ok-ended_by_memory-in-Memory-clause-answer : goal.returns-in_ok-ended_by_memory-in-Memory-clause-answer
returns-in_ok-ended_by_memory-in-Memory-clause-answer g c =
    c.in_ok-ended_by_memory-in-Memory.ensures.answer c.args.naming.now c.args.plan.now
    (record { olds = c.args.olds; effort = c.args.effort })

pub ended_by_memory-requires-clause-ranked : goal.ended_by_memory-requires-clause-ranked
ended_by_memory-requires-clause-ranked g c =
    let a = c.args in
    let taken = c.in_ok-taken.taken in
    let ready = c.in_ok-taken.ensures in
    let cut = (c.in-Memory.ensures a.kind a.cycle a.olds ready).1 in
    let first = best_ranked a.kind a.inst.now a.cycle a.plan.now a.olds taken (string_bytes taken.first) ready in (
      ready.opened.best,
      ready.opened.ranked,
      omega (arith, cut.best, ap (λ (b : Assignment). b.stations) first),
    )
