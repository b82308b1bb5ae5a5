use Rattle.tests_search.proofs.PartFacts.{own_kept}
use Rattle.tests_search.proofs.searches.sharing.PartDesk.least.Goals as goal

pub returns-clause-own : goal.returns-clause-own
returns-clause-own c =
    let part = c.args.self.now in
    own_kept part.book c.least.new.self part.from part.to part.turned part.within c.least.ensures.tells.waits
