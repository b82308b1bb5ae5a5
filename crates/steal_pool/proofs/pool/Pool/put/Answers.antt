use Rattle.std.proofs.Common.{◌+◌, ◌*◌, subst, sym, ap, arith}
use Rattle.steal_pool.specs.declared.piece.Piece.{Piece}
use Rattle.steal_pool.specs.Hands.{PortView, HandView, IsHandOf}
use Rattle.steal_pool.proofs.Ports.{puts_one}
use Rattle.steal_pool.proofs.pool.Pool.put.Goals as goal

pub returns-clause-hand : goal.returns-clause-hand
returns-clause-hand c =
    let i = c.hand.inside in
    let v : HandView = record { name = i.name; count = i.dealt; home = i.home; ports = i.ports.items } in
    let h : IsHandOf c.args.self.now v = subst (λ (z : HandView). IsHandOf c.args.self.now z) (sym c.hand.view_is)
    c.requires in
    let x : Piece = record {
      number = (c.from.result + 1) * 4294967296 + c.from-2.result;
      depth = c.args.depth;
      most = c.args.most;
      set = c.args.set.now;
    } in (
      subst (λ (z : PortView). IsHandOf c.args.self.now (record {
        name = i.name;
        count = i.dealt;
        home = z;
        ports = i.ports.items;
      })) (sym c.put.ensures)
          (puts_one c.args.self.now v x h (omega (arith, c.hand.invariant, c.if-hand.false))
          (omega (arith, c.hand.invariant, c.from.ensures, c.from-2.ensures))),
      ap (λ (z : HandView). z.name) c.hand.view_is,
    )
