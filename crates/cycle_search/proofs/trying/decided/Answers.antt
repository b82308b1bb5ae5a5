use Rattle.std.proofs.Common.{ℕ, IfOk, sym, ap, subst}
use Rattle.line_rules.specs.declared.types.LineKind.{LineKind}
use Rattle.lemma_core.specs.Machine.{About}
use Rattle.cycle_search.specs.inner.Searching.{IsBetween, IsAsking, IsCloser, IsTried}
use Rattle.cycle_search.specs.declared.halving.Halving.{Halving}
use Rattle.cycle_search.proofs.Tries.{sought_asking, sought_closer}
use Rattle.cycle_search.proofs.trying.decided.Goals as goal

pub returns-in_ok-with_balance-in-Some : goal.returns-in_ok-with_balance-in-Some
returns-in_ok-with_balance-in-Some g c =
    let s = c.args.search in
    let new = c.in_ok-search.search in
    let b = c.in-Some.best in
    let P : Halving → Type 0 =
    λ z. IsBetween s.book.about.kind c.args.inst.now c.args.stations c.args.plan.now z × IsCloser s.lower s.upper z in
    let Q : ℕ → Type 0 =
    λ x. P (record new { upper = x; balance = record { stations = c.args.stations; place = b.place } }) in
    subst P (sym c.in_ok-with_balance-in-Some.ensures) (subst Q (sym c.cycle-cycle.ensures) (sought_closer
    s.book.about.kind c.args.inst.now c.args.stations c.args.plan.now s.book.about.cycle s new c.in_ok-search.found
    c.requires.reopened c.in_ok-search.ensures b c.in-Some.is))

pub asked-requires-clause-asking : goal.asked-requires-clause-asking
asked-requires-clause-asking g c κs within =
    let s = c.args.search in
    let new = c.in_ok-search.search in
    let h = c.in_ok-search.ensures in
    let a = sought_asking s.book.about.kind c.args.inst.now c.args.stations c.args.plan.now s.book.about.cycle s new
    c.in_ok-search.found c.requires.reopened h in
    let P : LineKind → Type 0 =
    λ z. IsAsking z c.args.inst.now c.args.stations c.args.plan.now s.book.about.cycle new in
    let Q : ℕ → Type 0 =
    λ z. IsAsking new.book.about.kind c.args.inst.now c.args.stations c.args.plan.now z new in
    subst Q (sym a.cycle) (subst P (sym a.ends.kind_is) a)

pub returns-in-None : goal.returns-in-None
returns-in-None g c =
    let s = c.args.search in
    let h = c.in_ok-search.ensures in
    let line = c.args.inst.now in
    let m = c.args.stations in
    let plan = c.args.plan.now in
    let new = c.in_ok-search.search in
    let P : LineKind → Type 0 = λ z. IfOk c.asked.result (IsTried z line m plan new.lower new.upper) in
    let Q : ℕ → Type 0 = λ z. IfOk c.asked.result (IsTried s.book.about.kind line m plan z new.upper) in
    let R : ℕ → Type 0 = λ z. IfOk c.asked.result (IsTried s.book.about.kind line m plan s.lower z) in
    subst R h.upper (subst Q h.lower (subst P (ap (λ (z : About). z.kind) h.about) c.asked.ensures))
