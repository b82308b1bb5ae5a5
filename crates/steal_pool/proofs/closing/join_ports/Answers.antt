use Rattle.std.proofs.Common.{List, sym, subst, arith}
use Rattle.std.specs.Vec.Iter.{into_iter_items}
use Rattle.steal_pool.specs.Hands.{PortView}
use Rattle.steal_pool.proofs.ClosingFacts.{IsJoining, joins_start, joins_count, hands_at, joins_below, may_join}
use Rattle.steal_pool.proofs.ClosingFacts.{joins_next}
use Rattle.steal_pool.proofs.closing.join_ports.Goals as goal

pub loop-port-init : goal.loop-port-init
loop-port-init c =
    subst (λ (l : List PortView). IsJoining c.args.hands.now.items c.args.ports.items l 0 c.args.hands.now.items)
    (sym c.into_iter-port-iterator.ensures.into_iter_gives.0)
    (joins_start c.args.hands.now.items c.args.ports.items)

pub index_mut-hand-requires : goal.index_mut-hand-requires
index_mut-hand-requires c =
    let j = subst (λ (l : List PortView). IsJoining c.args.hands.now.items c.args.ports.items l c.loop-port.k
    c.loop-port.hands.items) c.in-Some.ensures.steps.0 c.loop-port.invariant in
    let b = joins_below c.args.hands.now.items c.args.deques.now.items c.args.ports.items
    (into_iter_items c.next.new.self) c.loop-port.k c.loop-port.hands.items c.in-Some.port j c.requires.ports in
    let n = joins_count c.args.hands.now.items c.args.ports.items (into_iter_items c.loop-port.port-iterator)
    c.loop-port.k c.loop-port.hands.items c.loop-port.invariant in
    let m = hands_at c.args.hands.now.items c.args.deques.now.items c.requires.hands in
    omega (arith, b, n, m, c.loop-port.hands.ok.0)

pub join_one-requires : goal.join_one-requires
join_one-requires c =
    let j = subst (λ (l : List PortView). IsJoining c.args.hands.now.items c.args.ports.items l c.loop-port.k
    c.loop-port.hands.items) c.in-Some.ensures.steps.0 c.loop-port.invariant in
    may_join c.args.hands.now.items c.args.deques.now.items c.args.ports.items (into_iter_items c.next.new.self)
    c.loop-port.k c.loop-port.hands.items c.in-Some.port c.index_mut-hand.result.now c.index.result.now
    j c.requires.hands c.requires.ports c.index_mut-hand.ensures.value c.index.ensures

pub loop-port-preserved : goal.loop-port-preserved
loop-port-preserved c =
    let j = subst (λ (l : List PortView). IsJoining c.args.hands.now.items c.args.ports.items l c.loop-port.k
    c.loop-port.hands.items) c.in-Some.ensures.steps.0 c.loop-port.invariant in
    let b = joins_below c.args.hands.now.items c.args.deques.now.items c.args.ports.items
    (into_iter_items c.next.new.self) c.loop-port.k c.loop-port.hands.items c.in-Some.port j c.requires.ports in
    let n = joins_count c.args.hands.now.items c.args.ports.items (into_iter_items c.loop-port.port-iterator)
    c.loop-port.k c.loop-port.hands.items c.loop-port.invariant in
    let m = hands_at c.args.hands.now.items c.args.deques.now.items c.requires.hands in
    joins_next c.args.hands.now.items c.args.ports.items (into_iter_items c.next.new.self) c.loop-port.k
    c.loop-port.hands.items c.in-Some.port c.index_mut-hand.result.now c.join_one.new.hand
    j (omega (arith, b, n, m)) c.index_mut-hand.ensures.value c.join_one.ensures.hand c.join_one.ensures.reported
