use Rattle.tests_search.proofs.PartFacts.{offers_too, own_offered}
use Rattle.tests_search.proofs.searches.sharing.PartDesk.offer.Goals as goal

pub returns-clause-offers : goal.returns-clause-offers
returns-clause-offers c =
    let part = c.args.self.now in
    offers_too part.book c.offer.new.self part.from part.to c.args.balance.stations c.offer.result part.within
    c.offer.ensures.offers

pub returns-clause-own : goal.returns-clause-own
returns-clause-own c =
    let part = c.args.self.now in
    own_offered part.book c.offer.new.self part.from part.to c.args.balance.stations c.offer.result part.turned
    part.within c.offer.ensures.offers
