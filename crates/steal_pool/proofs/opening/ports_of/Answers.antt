use Rattle.std.proofs.Common.{◌≡◌, ℕ, ◌<◌, List, [], ◌∷◌, ◌++◌, length, length-append, set, get_or, sym, ap, ◌∙◌, subst}
use Rattle.std.proofs.Common.{arith}
use Rattle.steal_pool.specs.Hands.{DequeId, PortView, HandView}
use Rattle.steal_pool.specs.Calls.{change_below}
use Rattle.steal_pool.specs.Opening.{left_hand}
use Rattle.steal_pool.proofs.Ports.{below_all}
use Rattle.steal_pool.proofs.OpeningFacts.{leaves_at, leaves_next, ports_next, ports_all, hands_count, length_below}
use Rattle.steal_pool.proofs.opening.ports_of.Goals as goal

pub index_mut-hand-requires : goal.index_mut-hand-requires
index_mut-hand-requires c =
    let n = hands_count c.args.deques.now.items c.args.hands.now.items c.requires in
    let m = length_below left_hand c.loop-k.k c.args.hands.now.items in
    let e = ap (λ (l : List HandView). length l) c.loop-k.invariant.hands in
    omega (arith, c.loop-k.hands.ok.0, c.args.deques.now.ok.0, e, m, n, c.loop-k-test.true, c.len-k-end.ensures)

-- the hand in the turn is at its deque, with parts to give
turn_at : (ds : List DequeId) (hs now : List HandView) (k : ℕ) (v : HandView) → now ≡ change_below left_hand k hs
    → v ≡ get_or now k v → v ≡ get_or (change_below left_hand k hs) k v
turn_at ds hs now k v e at = at ∙ ap (λ (l : List HandView). get_or l k v) e

pub port-requires-clause-deque : goal.port-requires-clause-deque
port-requires-clause-deque c =
    let v = c.index_mut-hand.result.now in
    let at = turn_at c.args.deques.now.items c.args.hands.now.items c.loop-k.hands.items c.loop-k.k v
    c.loop-k.invariant.hands c.index_mut-hand.ensures.value in
    let l = leaves_at c.args.deques.now.items c.args.hands.now.items c.loop-k.k v c.index.result.now c.requires
    (omega (arith, c.loop-k-test.true, c.len-k-end.ensures, c.args.deques.now.ok.0)) at c.index.ensures in
    ap (λ (z : HandView). z.home.deque) c.hand.view_is ∙ l.0

pub port-requires-clause-parts : goal.port-requires-clause-parts
port-requires-clause-parts c =
    let v = c.index_mut-hand.result.now in
    let at = turn_at c.args.deques.now.items c.args.hands.now.items c.loop-k.hands.items c.loop-k.k v
    c.loop-k.invariant.hands c.index_mut-hand.ensures.value in
    let l = leaves_at c.args.deques.now.items c.args.hands.now.items c.loop-k.k v c.index.result.now c.requires
    (omega (arith, c.loop-k-test.true, c.len-k-end.ensures, c.args.deques.now.ok.0)) at c.index.ensures in
    subst (λ (z : HandView). (1 < z.home.log.parts) × (1 < z.home.tally.parts)) (sym c.hand.view_is) (l.1, l.2)

pub loop-k-preserved : goal.loop-k-preserved
loop-k-preserved c =
    let i = c.hand.inside in
    let v = c.index_mut-hand.result.now in
    let k = c.loop-k.k in
    let hs = c.args.hands.now.items in
    let n = hands_count c.args.deques.now.items hs c.requires in
    let below : k < length c.args.deques.now.items = omega (
      arith,
      c.loop-k-test.true,
      c.len-k-end.ensures,
      c.args.deques.now.ok.0,
    ) in
    let at = turn_at c.args.deques.now.items hs c.loop-k.hands.items k v c.loop-k.invariant.hands
    c.index_mut-hand.ensures.value in
    let w : HandView = record { name = i.name; count = i.dealt; home = c.port.new.home; ports = i.ports.items } in
    let is : w ≡ left_hand v = ap (λ (z : PortView). record {
      name = i.name;
      count = i.dealt;
      home = z;
      ports = i.ports.items;
    }) c.port.ensures.home ∙ ap left_hand c.hand.view_is in
    record {
      below = omega (arith, below);
      count = omega (
        arith,
        ap (λ (l : List PortView). length l) c.push_reserved.ensures.items,
        length-append c.loop-k.ports.items (c.port.result ∷ []),
        c.loop-k.invariant.count,
      );
      hands = ap (λ (l : List HandView). set l k w) c.loop-k.invariant.hands
          ∙ leaves_next hs k v w (omega (arith, n, below)) at is;
      ports = c.push_reserved.ensures.items ∙ (λ j. c.loop-k.invariant.ports j ++ c.port.ensures.port j ∷ [])
          ∙ ports_next c.args.deques.now.items k c.index.result.now below c.index.ensures;
      room = omega (arith, c.loop-k.invariant.room, c.push_reserved.ensures.capacity);
    }

pub returns : goal.returns
returns c =
    let n = hands_count c.args.deques.now.items c.args.hands.now.items c.requires in
    let e : length c.args.deques.now.items ≡ c.loop-k.k = omega
    (arith, c.loop-k-test.false, c.loop-k.invariant.below, c.len-k-end.ensures, c.args.deques.now.ok.0) in (
      c.loop-k.invariant.ports ∙ ports_all c.args.deques.now.items c.loop-k.k e,
      c.loop-k.invariant.hands ∙ ap (λ (z : ℕ). change_below left_hand z c.args.hands.now.items) (sym (n ∙ e))
          ∙ below_all left_hand c.args.hands.now.items,
    )
