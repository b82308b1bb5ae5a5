use Rattle.line_rules.proofs.AcceptedIsTrue.{infeasible_true}
use Rattle.line_rules.proofs.laws.every_infeasible_certificate_is_true.Goals as goal

pub returns : goal.returns
returns c = infeasible_true
