use Rattle.lemma_core.proofs.BookAsDesk.{has_own}
use Rattle.lemma_core.proofs.desk.BookDesk.least.Goals as goal

pub returns-clause-own : goal.returns-clause-own
returns-clause-own c = has_own c.args.self.now
