use Rattle.std.proofs.Common.{◌-◌, List, sym, subst}
use Rattle.steal_pool.specs.Hands.{DequeId, HandView, AreHandsOf}
use Rattle.steal_pool.specs.Closing.{IsClosed}
use Rattle.steal_pool.proofs.ClosingFacts.{are_whole, closes}
use Rattle.steal_pool.proofs.pool.Pool.close.Goals as goal

pub count_all-put-requires : goal.count_all-put-requires
count_all-put-requires c =
    let ds = c.self.inside.deques.items in
    let hs = c.hands.inside.hands.items in
    let a : AreHandsOf ds hs = subst (λ (z : List DequeId × List HandView). AreHandsOf z.0 z.1)
    (λ i. (sym c.self.view_is i, sym c.hands.view_is i)) c.requires in
    are_whole ds hs c.join_all.new.hands.items a c.join_all.ensures

pub returns : goal.returns
returns c =
    let ds = c.self.inside.deques.items in
    let hs = c.hands.inside.hands.items in
    let a : AreHandsOf ds hs = subst (λ (z : List DequeId × List HandView). AreHandsOf z.0 z.1)
    (λ i. (sym c.self.view_is i, sym c.hands.view_is i)) c.requires in
    let put = c.count_all-put.result.0 in
    let left = c.count_all-put.result.1 in
    subst (λ (z : List HandView). IsClosed z (record { put = put; taken = put - left; left = left })) c.hands.view_is
    (closes ds hs c.join_all.new.hands.items put left a c.join_all.ensures c.count_all-put.ensures)
