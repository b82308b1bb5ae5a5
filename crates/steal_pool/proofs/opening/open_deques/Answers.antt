use Rattle.std.proofs.Common.{◌≡◌, List, [], ◌∷◌, ◌++◌, length, length-append, sym, ap, ◌∙◌, arith}
use Rattle.steal_pool.specs.Hands.{DequeId, HandView}
use Rattle.steal_pool.specs.Opening.{seated, bare_hands}
use Rattle.steal_pool.proofs.OpeningFacts.{bare_push}
use Rattle.steal_pool.proofs.opening.open_deques.Goals as goal

pub loop-name-preserved : goal.loop-name-preserved
loop-name-preserved c =
    let i = c.loop-name.invariant in
    let ds = c.loop-name.deques.items in
    let d = c.in_ok-deque.deque in
    let k = c.loop-name.name in
    let a = c.push_reserved.ensures in
    let b = c.push_reserved-in-loop-name.ensures in
    let w : HandView = record { name = k; count = 0; home = c.in_ok-deque.home; ports = c.new.result.items } in
    let is : w ≡ seated 1024 [] k d = (λ j. record {
      name = k;
      count = 0;
      home = c.in_ok-deque.ensures j;
      ports = c.new.ensures.items j;
    }) in
    record {
      below = omega (arith, c.loop-name-test.true);
      count = omega (arith, ap (λ (l : List DequeId). length l) a.items, length-append ds (d ∷ []), i.count);
      also = omega (
        arith,
        ap (λ (l : List HandView). length l) b.items,
        length-append c.loop-name.hands.items (w ∷ []),
        i.also,
      );
      hands = b.items ∙ (λ j. i.hands j ++ is j ∷ []) ∙ bare_push ds d k (sym i.count)
          ∙ ap (λ (l : List DequeId). bare_hands l) (sym a.items);
      room = omega (arith, a.capacity, i.room);
      seats = omega (arith, b.capacity, i.seats);
    }
