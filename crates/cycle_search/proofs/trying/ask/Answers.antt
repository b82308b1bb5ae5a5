use Rattle.cycle_search.proofs.AskFacts.{search_asked}
use Rattle.cycle_search.proofs.trying.ask.Goals as goal

pub returns : goal.returns
returns g c =
    search_asked c.args.stations c.args.plan.now c.args.search c.in_ok-asked.asked c.in_ok-asked.ensures
