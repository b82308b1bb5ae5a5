use Rattle.std.proofs.Common.{◌<◌, List, get_or, set, length, ap, ◌∙◌, arith}
use Rattle.std.proofs.lemmas.List.{set-get_or}
use Rattle.steal_pool.specs.Hands.{HandView}
use Rattle.steal_pool.proofs.ClosingFacts.{whole_at, counts_next, whole_count}
use Rattle.steal_pool.proofs.closing.count_all.Goals as goal

pub count_one-own-requires-clause-parts : goal.count_one-own-requires-clause-parts
count_one-own-requires-clause-parts c =
    let v = c.index_mut-hand.result.now in
    let w = whole_at c.args.deques.now.items c.args.hands.now.items c.loop-k.k v c.requires
    (omega (arith, c.loop-k-test.true, c.len-k-end.ensures, c.args.deques.now.ok.0))
    (c.index_mut-hand.ensures.value ∙ ap (λ (l : List HandView). get_or l c.loop-k.k v) c.loop-k.invariant.same) in
    (w.1, w.2)

pub overflow_add-put : goal.overflow_add-put
overflow_add-put c =
    let v = c.index_mut-hand.result.now in
    let w = whole_at c.args.deques.now.items c.args.hands.now.items c.loop-k.k v c.requires
    (omega (arith, c.loop-k-test.true, c.len-k-end.ensures, c.args.deques.now.ok.0))
    (c.index_mut-hand.ensures.value ∙ ap (λ (l : List HandView). get_or l c.loop-k.k v) c.loop-k.invariant.same) in
    omega (
      arith,
      w.3,
      c.count_one-own.ensures.put,
      c.loop-k.invariant.counted.few,
      c.loop-k.invariant.below,
      c.requires.few,
    )

pub overflow_add-left : goal.overflow_add-left
overflow_add-left c =
    let v = c.index_mut-hand.result.now in
    let w = whole_at c.args.deques.now.items c.args.hands.now.items c.loop-k.k v c.requires
    (omega (arith, c.loop-k-test.true, c.len-k-end.ensures, c.args.deques.now.ok.0))
    (c.index_mut-hand.ensures.value ∙ ap (λ (l : List HandView). get_or l c.loop-k.k v) c.loop-k.invariant.same) in
    let l = c.count_one-own.ensures.left in
    omega (
      arith,
      w.3,
      l.1,
      whole_count v l.0 l.2,
      c.loop-k.invariant.counted.less,
      c.loop-k.invariant.counted.few,
      c.loop-k.invariant.below,
      c.requires.few,
    )

pub loop-k-preserved : goal.loop-k-preserved
loop-k-preserved c =
    let v = c.index_mut-hand.result.now in
    let below : c.loop-k.k < length c.args.deques.now.items =
    omega (arith, c.loop-k-test.true, c.len-k-end.ensures, c.args.deques.now.ok.0) in
    let w = whole_at c.args.deques.now.items c.args.hands.now.items c.loop-k.k v c.requires below
    (c.index_mut-hand.ensures.value ∙ ap (λ (l : List HandView). get_or l c.loop-k.k v) c.loop-k.invariant.same) in
    let l = c.count_one-own.ensures.left in
    record {
      below = omega (arith, below);
      same = ap (λ (z : HandView). set c.loop-k.hands.items c.loop-k.k z)
          (c.count_one-own.ensures.same ∙ c.index_mut-hand.ensures.value) ∙ set-get_or c.loop-k.hands.items c.loop-k.k v
          ∙ c.loop-k.invariant.same;
      counted = counts_next c.args.hands.now.items c.loop-k.k c.loop-k.put c.loop-k.left c.count_one-own.result.0
          c.count_one-own.result.1 v l.0 c.loop-k.invariant.counted w.0 w.3 c.count_one-own.ensures.put l.1 l.2;
    }
