use Rattle.std.proofs.Common.{◌≡◌, ℕ, ◌+◌, refl, ap, ◌∙◌, subst, arith}
use Rattle.cycle_search.proofs.EndFacts.{first_best}
use Rattle.effic_search.specs.inner.Opening.{IsFirstBook}
use Rattle.effic_search.proofs.StartFacts.{first_none, first_next, going_begins, none_taken}
use Rattle.effic_search.proofs.opening.begin.Goals as goal

pub open_book-requires : goal.open_book-requires
open_book-requires c =
    first_best c.args.wanted.kind c.args.inst.now c.first_ends-ends.result.upper c.in_ok-first.first
    c.tasks-tasks.ensures.line
    c.requires.none (omega (arith, c.first_ends-ends.ensures.upper)) c.in_ok-first.ensures

pub loop-stations-init : goal.loop-stations-init
loop-stations-init c =
    let w = c.args.wanted in
    let upper = c.first_ends-ends.ensures.upper in
    first_none w.kind c.args.inst.now w.least c.in_ok-book.book
    (c.in_ok-book.ensures.about ∙ (λ i. record { line = c.args.inst.now; kind = w.kind; cycle = upper i }))
    (ap (λ z. z.entries) c.in_ok-book.ensures.state) c.in_ok-book.ensures.reserved

pub loop-stations-preserved : goal.loop-stations-preserved
loop-stations-preserved c =
    let w = c.args.wanted in
    let i = c.loop-stations.invariant in
    first_next w.kind c.args.inst.now w.least c.loop-stations.stations (c.loop-stations.stations + 1)
    c.loop-stations.book c.refute_below.new.book refl i c.in_ok-refute_below.ensures.about
    (c.in_ok-refute_below.ensures.reserved i.reserved) c.in_ok-refute_below.ensures.floored
    c.in_ok-refute_below.ensures.adds

pub returns-clause-going : goal.returns-clause-going
returns-clause-going c =
    let w = c.args.wanted in
    let P : ℕ → Type 0 = λ z. IsFirstBook w.kind c.args.inst.now w.least z c.loop-stations.book in
    let end : c.loop-stations.stations ≡ w.most + 1 =
    omega (
      arith,
      c.loop-stations-test.false,
      c.loop-stations.auto.stations,
      c.loop-stations.auto.stations-end,
      c.requires.order,
    ) in
    going_begins w.kind c.args.inst.now w.least w.most _ c.tasks-tasks.ensures.line c.requires.none c.requires.some
    c.requires.order c.requires.few (subst P end c.loop-stations.invariant) c.first_ends-ends.ensures.upper
    c.first_ends-ends.ensures.limit c.in_ok-all_at_first.ensures refl

pub returns-clause-paid : goal.returns-clause-paid
returns-clause-paid c = none_taken _ c.none.ensures refl
