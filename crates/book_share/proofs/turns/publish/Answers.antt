use Rattle.book_share.specs.Passes.{desk_by}
use Rattle.book_share.proofs.turns.publish.Goals as goal

pub returns-clause-memo : goal.returns-clause-memo
returns-clause-memo c = c.keep_published.ensures (desk_by c.publish_in_turn-published.new.seat.me.0) c.args.step
    c.requires.own c.publish_in_turn-published.ensures.memo
