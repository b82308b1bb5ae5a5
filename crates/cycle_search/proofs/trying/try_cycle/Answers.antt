use Rattle.std.proofs.Common.{ℕ, IfOk, sym, subst, arith}
use Rattle.line_rules.specs.declared.types.LineKind.{LineKind}
use Rattle.cycle_search.specs.inner.Searching.{IsBetween, IsReopened, IsCloser, IsTried}
use Rattle.cycle_search.specs.declared.halving.Halving.{Halving}
use Rattle.cycle_search.proofs.EndFacts.{none_long}
use Rattle.cycle_search.proofs.Tries.{ranked_closer}
use Rattle.cycle_search.proofs.trying.try_cycle.Goals as goal

pub unreachable-requires : goal.unreachable-requires
unreachable-requires g c =
    none_long c.args.inst.now c.args.stations c.args.cycle c.tasks-tasks.ensures.line
    (omega (arith, c.requires.between.ends.from, c.requires.from)) c.in-TooLong.field-0 c.in-TooLong.ensures.passes

pub returns-then-best-stations : goal.returns-then-best-stations
returns-then-best-stations g c =
    let s = c.args.search in
    let P : Halving → Type 0 =
    λ z. IsBetween c.args.kind c.args.inst.now c.args.stations c.args.plan.now z × IsCloser s.lower s.upper z in
    subst P (sym c.in_ok-with_balance.ensures) (ranked_closer c.args.kind c.args.inst.now c.args.stations
    c.args.plan.now c.args.cycle s c.in-Good.best c.requires.between c.requires.from c.requires.to
    c.in-Good.ensures.right c.if-best-stations.true)

pub decided-requires-clause-reopened : goal.decided-requires-clause-reopened
decided-requires-clause-reopened g c κs within =
    let h = c.in_ok-search.search in
    let a = c.in_ok-search.ensures.reopened c.args.plan.now c.requires.between in
    let P : LineKind → Type 0 =
    λ z. IsReopened z c.args.inst.now c.args.stations c.args.plan.now c.args.cycle h in
    let Q : ℕ → Type 0 =
    λ z. IsReopened h.book.about.kind c.args.inst.now c.args.stations c.args.plan.now z h in
    subst Q (sym a.cycle) (subst P (sym a.between.ends.kind_is) a)

pub returns : goal.returns
returns g c =
    let h = c.in_ok-search.search in
    let a = c.in_ok-search.ensures.reopened c.args.plan.now c.requires.between in
    let line = c.args.inst.now in
    let m = c.args.stations in
    let plan = c.args.plan.now in
    let P : LineKind → Type 0 = λ z. IfOk c.decided.result (IsTried z line m plan h.lower h.upper) in
    let Q : ℕ → Type 0 = λ z. IfOk c.decided.result (IsTried c.args.kind line m plan z h.upper) in
    let R : ℕ → Type 0 = λ z. IfOk c.decided.result (IsTried c.args.kind line m plan c.args.search.lower z) in
    subst R c.in_ok-search.ensures.same.1 (subst Q c.in_ok-search.ensures.same.0
    (subst P a.between.ends.kind_is c.decided.ensures))
