use Rattle.std.proofs.Common.{ℕ, sym, ap, subst, arith}
use Rattle.line_rules.specs.Balance.{IsRight}
use Rattle.line_rules.specs.declared.types.Balance.{Balance as Assignment}
use Rattle.effic_search.proofs.TryFacts.{best_right, improved_by}
use Rattle.effic_search.proofs.trying.found.Goals as goal

pub improved-requires-clause-right : goal.improved-requires-clause-right
improved-requires-clause-right c =
    let line = c.args.inst.now in
    let best = c.best.result.now in
    let P : Assignment → Type 0 = λ z. IsRight c.args.kind line c.cycle-cycle.result z in
    let Q : ℕ → Type 0 =
    λ z. IsRight c.args.kind line z (record { stations = c.args.stations; place = best.place }) in
    subst P (sym c.in_ok-balance.ensures) (subst Q (sym c.cycle-cycle.ensures)
    (best_right c.args.kind line c.args.stations c.args.search.book.about best c.requires.same c.requires.kind
    c.best.ensures.right
    (omega (arith, c.requires.fits, ap (λ (z : Assignment). z.stations) c.best.ensures.best))))

pub returns : goal.returns
returns c =
    improved_by c.args.kind c.args.inst.now c.args.stations c.args.search.book.about.cycle c.args.search c.improved.result _
    c.improved.ensures.book c.improved.ensures.listed c.improved.ensures.seeks c.improved.ensures.balance
    (ap (λ (z : Assignment). z.stations) c.in_ok-balance.ensures) c.improved.ensures.right c.improved.ensures.tight
    c.improved.ensures.some (omega (arith, c.improved.ensures.less, c.cycle-cycle.ensures))
