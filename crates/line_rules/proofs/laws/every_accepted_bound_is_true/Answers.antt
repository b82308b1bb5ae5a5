use Rattle.line_rules.proofs.AcceptedIsTrue.{accepted_true}
use Rattle.line_rules.proofs.laws.every_accepted_bound_is_true.Goals as goal

pub returns : goal.returns
returns c = accepted_true
