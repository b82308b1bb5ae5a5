use Rattle.std.proofs.Common.{◌+◌, List, sym, subst, arith}
use Rattle.steal_pool.specs.Hands.{HandView}
use Rattle.steal_pool.specs.Closing.{AreGathered}
use Rattle.steal_pool.proofs.ClosingFacts.{gathers_none, may_join_all, gathers_one}
use Rattle.steal_pool.proofs.closing.join_all.Goals as goal

pub loop-j-init : goal.loop-j-init
loop-j-init c = record {
  below = omega arith;
  gathered = gathers_none c.args.deques.now.items c.args.hands.now.items
      c.requires;
}

pub join_ports-requires-clause-hands : goal.join_ports-requires-clause-hands
join_ports-requires-clause-hands c =
    let g = c.loop-j.invariant.gathered in
    (may_join_all c.args.deques.now.items c.args.hands.now.items c.loop-j.hands.items c.loop-j.j
    c.index_mut-hand.result.now c.take_ports-ports.new.hand c.take_ports-ports.result.items c.requires g
    (omega (arith, c.loop-j-test.true, c.len-j-end.ensures, c.args.deques.now.ok.0, g.count, c.requires.count))
    c.index_mut-hand.ensures.value c.take_ports-ports.ensures.ports c.take_ports-ports.ensures.hand).0

pub join_ports-requires-clause-ports : goal.join_ports-requires-clause-ports
join_ports-requires-clause-ports c =
    let g = c.loop-j.invariant.gathered in
    (may_join_all c.args.deques.now.items c.args.hands.now.items c.loop-j.hands.items c.loop-j.j
    c.index_mut-hand.result.now c.take_ports-ports.new.hand c.take_ports-ports.result.items c.requires g
    (omega (arith, c.loop-j-test.true, c.len-j-end.ensures, c.args.deques.now.ok.0, g.count, c.requires.count))
    c.index_mut-hand.ensures.value c.take_ports-ports.ensures.ports c.take_ports-ports.ensures.hand).1

pub loop-j-preserved : goal.loop-j-preserved
loop-j-preserved c =
    let g = c.loop-j.invariant.gathered in
    let one = gathers_one c.args.deques.now.items c.args.hands.now.items c.loop-j.hands.items c.loop-j.j
    c.index_mut-hand.result.now c.take_ports-ports.new.hand c.take_ports-ports.result.items c.requires g
    (omega (arith, c.loop-j-test.true, c.len-j-end.ensures, c.args.deques.now.ok.0, g.count, c.requires.count))
    c.index_mut-hand.ensures.value c.take_ports-ports.ensures.ports c.take_ports-ports.ensures.hand
    c.join_ports.ensures.reported in
    record {
      below = omega (arith, c.loop-j-test.true, c.len-j-end.ensures, c.args.deques.now.ok.0);
      gathered = subst (λ (l : List HandView). AreGathered c.args.deques.now.items c.args.hands.now.items
          (c.loop-j.j + 1) l) (sym c.join_ports.ensures.hands) one;
    }
