use Rattle.cycle_search.proofs.AskFacts.{search_sought}
use Rattle.cycle_search.proofs.trying.sought.Goals as goal

pub returns : goal.returns
returns g c =
    search_sought c.args.stations c.args.plan.now c.args.search c.in_ok-sought.sought c.in_ok-sought.ensures.sought
