use Rattle.line_rules.proofs.AcceptedIsTrue.{optimum_is_least}
use Rattle.line_rules.proofs.laws.accepted_optimum_is_least.Goals as goal

pub returns : goal.returns
returns c = optimum_is_least
