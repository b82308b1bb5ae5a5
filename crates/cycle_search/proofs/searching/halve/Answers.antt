use Rattle.std.proofs.Common.{subst}
use Rattle.cycle_search.specs.inner.Searching.{IsTried, IsStuck}
use Rattle.cycle_search.specs.declared.trying.Tried.{Tried}
use Rattle.cycle_search.proofs.ReopenFacts.{stuck_cites, stuck_few, stuck_searches}
use Rattle.cycle_search.proofs.searching.halve.Goals as goal

pub stopped-requires-clause-cites : goal.stopped-requires-clause-cites
stopped-requires-clause-cites g c =
    let P : Tried → Type 0 = λ z.
    IsTried c.args.kind c.args.inst.now c.args.stations c.args.plan.now c.halving.search.lower c.halving.search.upper z
    in
    let s : IsStuck c.args.kind c.args.inst.now c.args.stations c.args.plan.now c.in-Stops.cause c.in-Stops.search
    c.in-Stops.frames c.in-Stops.closing_from = subst P c.in-Stops.is c.in_ok-closer.ensures in
    stuck_cites c.args.kind c.args.inst.now c.args.stations c.args.plan.now c.in-Stops.cause c.in-Stops.search
    c.in-Stops.frames c.in-Stops.closing_from c.tasks-tasks.ensures.line s

pub stopped-requires-clause-count : goal.stopped-requires-clause-count
stopped-requires-clause-count g c =
    let P : Tried → Type 0 = λ z.
    IsTried c.args.kind c.args.inst.now c.args.stations c.args.plan.now c.halving.search.lower c.halving.search.upper z
    in
    let s : IsStuck c.args.kind c.args.inst.now c.args.stations c.args.plan.now c.in-Stops.cause c.in-Stops.search
    c.in-Stops.frames c.in-Stops.closing_from = subst P c.in-Stops.is c.in_ok-closer.ensures in
    (stuck_few c.args.kind c.args.inst.now c.args.stations c.args.plan.now c.in-Stops.cause c.in-Stops.search
    c.in-Stops.frames c.in-Stops.closing_from c.requires.plan.limit s).0

pub stopped-requires-clause-earlier : goal.stopped-requires-clause-earlier
stopped-requires-clause-earlier g c =
    let P : Tried → Type 0 = λ z.
    IsTried c.args.kind c.args.inst.now c.args.stations c.args.plan.now c.halving.search.lower c.halving.search.upper z
    in
    let s : IsStuck c.args.kind c.args.inst.now c.args.stations c.args.plan.now c.in-Stops.cause c.in-Stops.search
    c.in-Stops.frames c.in-Stops.closing_from = subst P c.in-Stops.is c.in_ok-closer.ensures in
    (stuck_few c.args.kind c.args.inst.now c.args.stations c.args.plan.now c.in-Stops.cause c.in-Stops.search
    c.in-Stops.frames c.in-Stops.closing_from c.requires.plan.limit s).1

pub returns-in-Stops : goal.returns-in-Stops
returns-in-Stops g c =
    let P : Tried → Type 0 = λ z.
    IsTried c.args.kind c.args.inst.now c.args.stations c.args.plan.now c.halving.search.lower c.halving.search.upper z
    in
    let s : IsStuck c.args.kind c.args.inst.now c.args.stations c.args.plan.now c.in-Stops.cause c.in-Stops.search
    c.in-Stops.frames c.in-Stops.closing_from = subst P c.in-Stops.is c.in_ok-closer.ensures in
    stuck_searches c.args.kind c.args.inst.now c.args.stations c.args.plan.now c.in-Stops.cause c.in-Stops.search
    c.in-Stops.frames c.in-Stops.closing_from c.stopped.result s c.stopped.ensures
