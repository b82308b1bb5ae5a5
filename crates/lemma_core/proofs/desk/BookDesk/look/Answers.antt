use Rattle.lemma_core.proofs.BookAsDesk.{looks, has_derived, has_own}
use Rattle.lemma_core.proofs.desk.BookDesk.look.Goals as goal

pub returns-clause-finds : goal.returns-clause-finds
returns-clause-finds c = looks c.args.self.now c.args.set.now c.args.most c.look.result c.len-len.ensures.kept
    c.look.ensures

pub returns-clause-derived : goal.returns-clause-derived
returns-clause-derived c = has_derived c.args.self.now c.len-len.ensures.kept

pub returns-clause-own : goal.returns-clause-own
returns-clause-own c = has_own c.args.self.now
