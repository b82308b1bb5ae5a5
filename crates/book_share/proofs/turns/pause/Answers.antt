use Rattle.std.proofs.Common.{◌∙◌, rules}
use Rattle.book_share.proofs.LoadSteps.{peeks}
use Rattle.book_share.proofs.turns.pause.Goals as goal

pub load-requires : goal.load-requires
load-requires g c =
    let seat = c.loop.seat in (
      c.loop.invariant.table ∙ c.requires.seat,
      search rules,
      peeks c.args.room.now.shared.table_id.slots seat.id seat.me.0 seat.me.1,
    )
