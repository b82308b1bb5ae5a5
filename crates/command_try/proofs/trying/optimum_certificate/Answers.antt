use Rattle.std.proofs.Common.{◌≤◌}
use Rattle.std.proofs.lemmas.Result.{IfOk-weaker}
use Rattle.command_try.specs.Tried.{IsAcceptable, alone}
use Rattle.command_try.proofs.ShownFacts.{acceptable_optimum}
use Rattle.command_try.proofs.trying.optimum_certificate.Goals as goal

pub returns-clause-acceptable : goal.returns-clause-acceptable
returns-clause-acceptable c =
    IfOk-weaker c.certify_optimum.result _ (IsAcceptable c.args.inst.now)
    (λ cert all. acceptable_optimum c.args.kind c.args.inst.now c.args.cycle c.requires.solved.0
    c.args.book.state.best cert (all (alone c.requires.solved.0) c.requires.solved.1 c.requires.solved.2))
    c.certify_optimum.ensures
