use Rattle.std.proofs.Common.{arith, string_bytes, subst}
use Rattle.round_run.specs.Solving.{SolvesFrom}
use Rattle.round_run.specs.declared.solving.Cause.{Cause}
use Rattle.round_run.specs.declared.solving.Outcome.TheVariants as outcome
use Rattle.command_solve.proofs.BegunFacts.{solves_so}
use Rattle.command_solve.proofs.TurnFacts.{found_so}
use Rattle.command_solve.proofs.solution.run.Goals as goal

pub returns-in_ok-optimal-in-Solved-clause-answer : goal.returns-in_ok-optimal-in-Solved-clause-answer
returns-in_ok-optimal-in-Solved-clause-answer g c = λ start begun.
    let a = c.args in
    let book = a.begun.book in
    found_so a.naming.now a.kind a.inst.now a.cycle a.plan.now start book (string_bytes a.begun.first) _ _ _ begun
    (c.in_ok-optimal-in-Solved.ensures book.state.entries a.plan.now begun.room begun.few
    (solves_so begun (outcome.Solved c.in-Solved.book) c.in-Solved.ensures))

pub returns-in_ok-stopped-in-Units-clause-answer : goal.returns-in_ok-stopped-in-Units-clause-answer
returns-in_ok-stopped-in-Units-clause-answer g c = λ start begun.
    let a = c.args in
    let book = a.begun.book in
    let end = c.in-Stopped in
    let S : Cause → Type 0 = λ cause. SolvesFrom a.kind a.inst.now a.cycle a.plan.now book.state.entries
    book.state.best.stations (outcome.Stopped cause end.lower end.book end.trail) in
    c.in_ok-stopped-in-Units.ensures start book a.plan.now begun
    (subst S c.in-Units.is (solves_so begun (outcome.Stopped end.cause end.lower end.book end.trail) end.ensures))

pub returns-in_ok-ended_by_memory-in-Memory-clause-answer : goal.returns-in_ok-ended_by_memory-in-Memory-clause-answer
returns-in_ok-ended_by_memory-in-Memory-clause-answer g c = λ start begun.
    c.in_ok-ended_by_memory-in-Memory.ensures.answer c.args.naming.now c.args.plan.now start

pub ended_by_memory-requires-clause-ranked : goal.ended_by_memory-requires-clause-ranked
ended_by_memory-requires-clause-ranked g c =
    let a = c.args in
    let begun = c.requires.begun.1 in
    let end = c.in-Stopped in
    let book = a.begun.book in
    let S : Cause → Type 0 = λ cause. SolvesFrom a.kind a.inst.now a.cycle a.plan.now book.state.entries
    book.state.best.stations (outcome.Stopped cause end.lower end.book end.trail) in
    let cut = subst S c.in-Memory.is (solves_so begun (outcome.Stopped end.cause end.lower end.book end.trail)
    end.ensures) in
    (begun.begins.opened.best, begun.begins.opened.ranked, omega (arith, cut.best, begun.begins.ranked))
