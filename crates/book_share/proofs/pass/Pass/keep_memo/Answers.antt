use Rattle.lemma_core.specs.Desks.{entries}
use Rattle.book_share.specs.Passes.{desk_by}
use Rattle.book_share.proofs.pass.Pass.keep_memo.Goals as goal

pub invariant_of-self : goal.invariant_of-self
invariant_of-self c =
    let d = desk_by c.self.inside.seat.me.0 in (
      c.self.invariant.0,
      record {
        memo = c.new.ensures.memo d.about.cycle (entries d);
        all = λ r. absurd (c.new.ensures.ready r);
        derived = λ r. absurd (c.new.ensures.ready r);
      },
    )
