use Rattle.command_try.proofs.ShownFacts.{shown_optimum}
use Rattle.command_try.proofs.trying.optimal.Goals as goal

pub returns : goal.returns
returns g c = λ N l s.
    shown_optimum c.args.kind c.args.inst.now c.args.seed c.args.cycle N c.args.book.state.best c.in_ok-cert.cert
    c.in_ok-report.report (c.in_ok-cert.ensures.optimum N l s) c.in_ok-report.ensures
