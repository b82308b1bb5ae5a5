use Rattle.std.proofs.Common.{◌≡◌, ◌<◌, List, length, map, sym, ap, ◌∙◌, subst, arith}
use Rattle.steal_pool.specs.Hands.{PortView, HandView, fresh_port}
use Rattle.steal_pool.specs.Opening.{CanLeave}
use Rattle.steal_pool.proofs.OpeningFacts.{can_leave, seats_one, seats_count, seats_all}
use Rattle.steal_pool.proofs.opening.seat_hands.Goals as goal

pub ports_of-requires : goal.ports_of-requires
ports_of-requires c =
    subst (λ (l : List HandView). CanLeave c.args.deques.now.items l) (sym c.loop-j.invariant.hands)
    (can_leave c.args.deques.now.items c.loop-j.j (omega (
      arith,
      c.loop-j-test.true,
      c.len-j-end.ensures,
      c.args.deques.now.ok.0,
    )) c.requires.few)

pub index_mut-hand-requires : goal.index_mut-hand-requires
index_mut-hand-requires c =
    let n = seats_count c.args.deques.now.items c.loop-j.j c.loop-j.hands.items c.ports_of.new.hands.items
    c.loop-j.invariant.hands c.in_ok-ports.ensures.1 in
    omega (arith, n, c.ports_of.new.hands.ok.0, c.loop-j-test.true, c.len-j-end.ensures, c.args.deques.now.ok.0)

pub loop-j-preserved : goal.loop-j-preserved
loop-j-preserved c =
    let i = c.hand.inside in
    let v = c.index_mut-hand.result.now in
    let below : c.loop-j.j < length c.args.deques.now.items =
    omega (arith, c.loop-j-test.true, c.len-j-end.ensures, c.args.deques.now.ok.0) in
    let w : HandView = record { name = i.name; count = i.dealt; home = i.home; ports = c.in_ok-ports.ports.items } in
    let is : w ≡ record v { ports = map fresh_port c.args.deques.now.items } =
    ap (λ (z : List PortView). record { name = i.name; count = i.dealt; home = i.home; ports = z })
    c.in_ok-ports.ensures.0
    ∙ ap (λ (z : HandView). record {
      name = z.name;
      count = z.count;
      home = z.home;
      ports = map fresh_port c.args.deques.now.items;
    }) c.hand.view_is in
    record {
      below = omega (arith, below);
      hands = seats_one c.args.deques.now.items c.loop-j.j c.loop-j.hands.items c.ports_of.new.hands.items v w below
          c.loop-j.invariant.hands c.in_ok-ports.ensures.1 c.index_mut-hand.ensures.value is;
    }

pub returns : goal.returns
returns c =
    c.loop-j.invariant.hands ∙ seats_all c.args.deques.now.items c.loop-j.j
    (omega (arith, c.loop-j-test.false, c.loop-j.invariant.below, c.len-j-end.ensures, c.args.deques.now.ok.0))
