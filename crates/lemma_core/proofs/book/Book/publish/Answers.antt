use Rattle.lemma_core.proofs.Logs.{reserved_published}
use Rattle.lemma_core.proofs.book.Book.publish.Goals as goal

pub returns-in-Some-clause-reserved : goal.returns-in-Some-clause-reserved
returns-in-Some-clause-reserved c = reserved_published c.args.self.now c.know.new.self c.args.step c.know.result
    c.know.ensures

pub returns-in-None-clause-reserved : goal.returns-in-None-clause-reserved
returns-in-None-clause-reserved c = reserved_published c.args.self.now c.add.new.self c.args.step c.add.result
    c.add.ensures
