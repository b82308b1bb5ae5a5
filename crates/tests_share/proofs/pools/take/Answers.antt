use Rattle.std.proofs.Common.{List, sym, ap, subst}
use Rattle.std.specs.Prelude.{slice_index_or}
use Rattle.steal_pool.specs.Hands.{HandView, AreHandsOf}
use Rattle.steal_pool.proofs.HandFacts.{hand_at, hands_after}
use Rattle.tests_share.proofs.pools.take.Goals as goal

pub take-requires : goal.take-requires
take-requires g c =
    let e = c.each-each.ensures.value in
    let a = subst (λ (z : List HandView). AreHandsOf c.args.pool.now z) (sym e) c.requires.0 in
    (hand_at c.args.pool.now c.each-each.result.now c.args.k
    (slice_index_or c.each-each.result.now c.args.k c.index-each-k.result) a c.requires.1
    (ap (λ (z : HandView). slice_index_or c.each-each.result.now c.args.k z) c.index-each-k.is)).1

pub returns-in-Got : goal.returns-in-Got
returns-in-Got g c =
    hands_after c.args.pool.now c.args.hands.now c.each-each.result.now c.args.k
    (slice_index_or c.each-each.result.now c.args.k c.index-each-k.result) c.take.new.hand c.requires.0
    c.each-each.ensures.value c.requires.1
    (ap (λ (z : HandView). slice_index_or c.each-each.result.now c.args.k z) c.index-each-k.is) c.take.ensures.hand

pub returns-in-Empty : goal.returns-in-Empty
returns-in-Empty g c =
    hands_after c.args.pool.now c.args.hands.now c.each-each.result.now c.args.k
    (slice_index_or c.each-each.result.now c.args.k c.index-each-k.result) c.take.new.hand c.requires.0
    c.each-each.ensures.value c.requires.1
    (ap (λ (z : HandView). slice_index_or c.each-each.result.now c.args.k z) c.index-each-k.is) c.take.ensures.hand
