use Rattle.lemma_core.proofs.BookAsDesk.{offers_so, has_own}
use Rattle.lemma_core.proofs.desk.BookDesk.offer.Goals as goal

pub returns-clause-own : goal.returns-clause-own
returns-clause-own c = has_own c.offer.new.self

pub returns-clause-offers : goal.returns-clause-offers
returns-clause-offers c = offers_so c.args.self.now c.offer.new.self c.args.balance c.offer.result
    c.len-len.ensures.kept c.offer.ensures.answer c.offer.ensures.ran
