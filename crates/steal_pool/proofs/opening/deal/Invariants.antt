use Rattle.std.specs.Vec.Iter.{into_iter_items}
use Rattle.steal_pool.proofs.OpeningFacts.{IsDealing}
use Rattle.steal_pool.proofs.opening.deal.Given as goal

abbrev pub invariant-loop-piece : goal.invariant-loop-piece
invariant-loop-piece l = IsDealing l.deques.items l.fn.pieces.items (into_iter_items l.piece-iterator) l.hands.items
