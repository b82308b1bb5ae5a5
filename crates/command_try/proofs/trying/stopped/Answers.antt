use Rattle.std.proofs.Common.{arith}
use Rattle.command_try.proofs.ShownFacts.{shown_stop}
use Rattle.command_try.proofs.trying.stopped.Goals as goal

pub returns : goal.returns
returns g c = λ N l s.
    shown_stop c.args.kind c.args.inst.now c.args.seed c.args.cycle N c.args.lower c.args.book.state.best
    c.stop_certificate-cert.result c.in_ok-report.report (c.stop_certificate-cert.ensures.stop N l s)
    (λ a ranked. omega (arith, s.spent.best, s.ranked a ranked)) c.in_ok-report.ensures
