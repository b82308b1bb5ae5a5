use Rattle.std.proofs.Common.{List, length, ap, arith}
use Rattle.steal_pool.specs.declared.piece.Piece.{Piece}
use Rattle.steal_pool.proofs.Each.{length_each}
use Rattle.round_helpers.specs.inner.Pieces.{piece_of}
use Rattle.round_helpers.proofs.PieceFacts.{pieces_numbered}
use Rattle.round_helpers.proofs.equipment.equip.Goals as goal

pub open_pool-requires-clause-few : goal.open_pool-requires-clause-few
open_pool-requires-clause-few c =
    omega (
      arith,
      ap (λ (z : List Piece). length z) c.in_ok-pieces.ensures,
      length_each (piece_of c.args.most) 0 c.args.jobs.now,
      c.requires.few,
    )

pub open_pool-requires-clause-numbered : goal.open_pool-requires-clause-numbered
open_pool-requires-clause-numbered c =
    pieces_numbered c.args.most c.args.jobs.now c.in_ok-pieces.pieces.items c.in_ok-pieces.ensures
