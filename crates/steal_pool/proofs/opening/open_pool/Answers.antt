use Rattle.std.proofs.Common.{List, sym, subst, arith}
use Rattle.steal_pool.specs.Hands.{HandView, AreHandsOf}
use Rattle.steal_pool.proofs.OpeningFacts.{are_hands}
use Rattle.steal_pool.proofs.opening.open_pool.Goals as goal

pub returns-in-Ok : goal.returns-in-Ok
returns-in-Ok c =
    let e = c.in-Ok.ensures in
    let few = c.requires.hands.1 in (
      e.0,
      e.1,
      subst (λ (z : List HandView). AreHandsOf c.in-Ok.pool z) (sym e.1)
          (are_hands c.in-Ok.pool c.args.pieces.items c.requires.numbered c.requires.few (omega (arith, e.0, few))),
    )
