use Rattle.lemma_core.proofs.BookAsDesk.{publishes, has_derived, has_own}
use Rattle.lemma_core.proofs.desk.BookDesk.publish.Goals as goal

pub returns-clause-publishes : goal.returns-clause-publishes
returns-clause-publishes c = publishes c.args.self.now c.publish-published.new.self c.args.step
    c.publish-published.result c.len-len.ensures.kept c.publish-published.ensures.does

pub returns-clause-derived : goal.returns-clause-derived
returns-clause-derived c = has_derived c.publish-published.new.self c.len-grown.ensures.kept

pub returns-clause-own : goal.returns-clause-own
returns-clause-own c = has_own c.publish-published.new.self
