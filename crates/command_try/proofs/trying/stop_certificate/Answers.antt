use Rattle.command_try.specs.Tried.{alone}
use Rattle.command_try.proofs.ShownFacts.{acceptable_stop}
use Rattle.command_try.proofs.trying.stop_certificate.Goals as goal

pub returns-clause-acceptable : goal.returns-clause-acceptable
returns-clause-acceptable c =
    acceptable_stop c.args.kind c.args.inst.now c.args.cycle c.requires.spent.0 c.args.lower c.args.book.state.best
    c.certify_stop.result (c.certify_stop.ensures (alone c.requires.spent.0) c.requires.spent.1 c.requires.spent.2)
