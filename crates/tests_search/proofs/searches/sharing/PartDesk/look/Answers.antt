use Rattle.tests_search.proofs.PartFacts.{own_kept}
use Rattle.tests_search.proofs.searches.sharing.PartDesk.look.Goals as goal

pub returns-clause-own : goal.returns-clause-own
returns-clause-own c =
    let part = c.meet_other.new.self in
    own_kept part.book c.look.new.self part.from part.to part.turned part.within c.look.ensures.waits
