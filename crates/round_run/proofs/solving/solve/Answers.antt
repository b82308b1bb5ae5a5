use Rattle.std.proofs.Common.{subst}
use Rattle.lemma_core.specs.Machine.{About, State}
use Rattle.round_run.specs.Solving.{SolvesFrom}
use Rattle.round_run.proofs.Endings.{from_ranked}
use Rattle.round_run.proofs.solving.solve.Goals as goal

pub returns-in-Ok : goal.returns-in-Ok
returns-in-Ok g c =
    let b = c.in-Ok.book in
    let A : About → Type 0 =
    λ z. SolvesFrom z.kind c.args.inst.now z.cycle c.args.plan.now b.state.entries b.state.best.stations
    c.solve_from.result in
    let S : State → Type 0 =
    λ z. SolvesFrom c.args.kind c.args.inst.now c.args.cycle c.args.plan.now z.entries z.best.stations
    c.solve_from.result in
    from_ranked c.args.kind c.args.inst.now c.args.cycle c.args.plan.now c.in-Good.best c.solve_from.result
    c.in-Good.ensures.ranked c.in-Good.ensures.short
    (subst S c.in-Ok.ensures.state (subst A c.in-Ok.ensures.about c.solve_from.ensures))
