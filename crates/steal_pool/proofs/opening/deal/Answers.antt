use Rattle.std.proofs.Common.{◌≡◌, ℕ, ◌%◌, ◌<◌, List, length, ap, subst, arith}
use Rattle.std.proofs.Math.Nat.{mod-lt}
use Rattle.std.specs.Vec.Iter.{into_iter_items}
use Rattle.steal_pool.specs.declared.piece.Piece.{Piece}
use Rattle.steal_pool.proofs.OpeningFacts.{IsDealing, hands_dealing, may_deal, deals_one}
use Rattle.steal_pool.proofs.opening.deal.Goals as goal

pub index_mut-hand-requires : goal.index_mut-hand-requires
index_mut-hand-requires c =
    let n = hands_dealing c.args.deques.now.items c.args.pieces.items (into_iter_items c.loop-piece.piece-iterator)
    c.loop-piece.hands.items c.loop-piece.invariant in
    let m : c.in-Some.piece.number % c.len.result < c.len.result =
    mod-lt c.in-Some.piece.number (omega (arith, c.requires.hands.0, c.len.ensures, c.args.deques.now.ok.0)) in
    omega (arith, n, m, c.loop-piece.hands.ok.0, c.len.ensures, c.args.deques.now.ok.0)

pub deal_one-requires : goal.deal_one-requires
deal_one-requires c =
    let k = c.in-Some.piece.number % c.len.result in
    let m : k < c.len.result = mod-lt c.in-Some.piece.number
    (omega (arith, c.requires.hands.0, c.len.ensures, c.args.deques.now.ok.0)) in
    let j = subst (λ (l : List Piece). IsDealing c.args.deques.now.items c.args.pieces.items l c.loop-piece.hands.items)
    c.in-Some.ensures.steps.0 c.loop-piece.invariant in
    may_deal c.args.deques.now.items c.args.pieces.items (into_iter_items c.next.new.self) c.loop-piece.hands.items
    c.in-Some.piece k c.index_mut-hand.result.now c.index.result.now j
    (omega (arith, m, c.len.ensures, c.args.deques.now.ok.0)) c.requires.hands.1 c.requires.few
    c.index_mut-hand.ensures.value c.index.ensures

pub loop-piece-preserved : goal.loop-piece-preserved
loop-piece-preserved c =
    let k = c.in-Some.piece.number % c.len.result in
    let size : c.len.result ≡ length c.args.deques.now.items = omega (arith, c.len.ensures, c.args.deques.now.ok.0) in
    let m : k < c.len.result = mod-lt c.in-Some.piece.number (omega (arith, c.requires.hands.0, size)) in
    let j = subst (λ (l : List Piece). IsDealing c.args.deques.now.items c.args.pieces.items l c.loop-piece.hands.items)
    c.in-Some.ensures.steps.0 c.loop-piece.invariant in
    deals_one c.args.deques.now.items c.args.pieces.items (into_iter_items c.next.new.self) c.loop-piece.hands.items
    c.in-Some.piece k c.index_mut-hand.result.now c.deal_one.new.hand j
    (ap (λ (z : ℕ). c.in-Some.piece.number % z) size) (omega (arith, m, size)) c.index_mut-hand.ensures.value
    c.deal_one.ensures
