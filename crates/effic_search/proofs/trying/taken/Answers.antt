use Rattle.std.proofs.Common.{sym, ap, subst}
use Rattle.line_rules.specs.Balance.{IsRight}
use Rattle.line_rules.specs.declared.types.Balance.{Balance as Assignment}
use Rattle.cycle_search.proofs.Tries.{widened_right}
use Rattle.effic_search.proofs.TryFacts.{improved_by}
use Rattle.effic_search.proofs.trying.taken.Goals as goal

pub improved-requires-clause-right : goal.improved-requires-clause-right
improved-requires-clause-right c =
    let P : Assignment → Type 0 = λ z. IsRight c.args.kind c.args.inst.now c.args.cycle z in
    subst P (sym c.in_ok-balance.ensures) (widened_right c.args.kind c.args.inst.now c.args.stations c.args.cycle
    c.args.balance.now c.requires.right c.requires.fits).right

pub returns : goal.returns
returns c =
    improved_by c.args.kind c.args.inst.now c.args.stations c.args.cycle c.args.search c.improved.result _
    c.improved.ensures.book c.improved.ensures.listed c.improved.ensures.seeks c.improved.ensures.balance
    (ap (λ (z : Assignment). z.stations) c.in_ok-balance.ensures) c.improved.ensures.right c.improved.ensures.tight
    c.improved.ensures.some c.improved.ensures.less
