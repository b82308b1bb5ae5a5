use Rattle.std.proofs.Common.{ℕ, List, string_bytes, subst, sym}
use Rattle.round_run.specs.Solving.{SolvesFrom}
use Rattle.round_run.specs.declared.plans.Plan.{Plan}
use Rattle.round_run.specs.declared.solving.Cause.{Cause}
use Rattle.round_run.specs.declared.solving.Outcome.{Outcome}
use Rattle.round_run.specs.declared.solving.Outcome.TheVariants as outcome
use Rattle.command_solve.specs.Effort.{first_plan}
use Rattle.command_solve.specs.inner.Begun.{IsReady}
use Rattle.command_solve.proofs.TurnFacts.{ready_behind, solves_first}
use Rattle.command_solve.proofs.first_search.search_first.Goals as goal

pub returns-then-effort-eq0 : goal.returns-then-effort-eq0
returns-then-effort-eq0 g c = λ kind cycle olds ready.
    let a = c.args in
    let R : ℕ → Type 0 = λ u. IsReady kind a.inst.now cycle a.plan.now u olds a.taken (string_bytes a.taken.first) in
    subst R (sym c.if-effort-eq0.true) ready

pub returns-in-Units : goal.returns-in-Units
returns-in-Units g c = λ kind cycle olds ready.
    let a = c.args in
    let taken = a.taken in
    let said : List ℕ = string_bytes taken.first in
    let end = c.in-Stopped in
    let plan : Plan = first_plan a.effort.first a.plan.now in
    let out : Cause → Outcome = λ cause. outcome.Stopped cause end.lower end.book end.trail in
    let P : Plan → Type 0 = λ p. SolvesFrom taken.book.about.kind a.inst.now taken.book.about.cycle p
    taken.book.state.entries taken.book.state.best.stations (out end.cause) in
    let S : Cause → Type 0 = λ cause. SolvesFrom kind a.inst.now cycle plan taken.book.state.entries
    taken.book.state.best.stations (out cause) in
    let solves = solves_first kind a.inst.now cycle a.plan.now olds taken said ready plan (out end.cause)
    (subst P c.first_plan.ensures end.ensures) in
    ready_behind kind a.inst.now cycle a.plan.now olds taken said ready a.effort.first end.lower end.trail end.book
    c.go_on.result c.if-effort-eq0.false (subst S c.in-Units.is solves) c.go_on.ensures
