use Rattle.std.proofs.Common.{List, sym, ap, subst}
use Rattle.std.specs.Prelude.{slice_index_or}
use Rattle.steal_pool.specs.Hands.{HandView, AreHandsOf}
use Rattle.steal_pool.proofs.HandFacts.{hand_at, hands_after}
use Rattle.tests_share.proofs.pools.put.Goals as goal

pub put-requires : goal.put-requires
put-requires c =
    let a = subst (λ (z : List HandView). AreHandsOf c.args.pool.now z) (sym c.each-each.ensures.value) c.requires.0 in
    (hand_at c.args.pool.now c.each-each.result.now c.args.k
    (slice_index_or c.each-each.result.now c.args.k c.index-each-k.result) a c.requires.1
    (ap (λ (z : HandView). slice_index_or c.each-each.result.now c.args.k z) c.index-each-k.is)).1

pub returns : goal.returns
returns c =
    hands_after c.args.pool.now c.args.hands.now c.each-each.result.now c.args.k
    (slice_index_or c.each-each.result.now c.args.k c.index-each-k.result) c.put.new.hand c.requires.0
    c.each-each.ensures.value c.requires.1
    (ap (λ (z : HandView). slice_index_or c.each-each.result.now c.args.k z) c.index-each-k.is) c.put.ensures.hand
