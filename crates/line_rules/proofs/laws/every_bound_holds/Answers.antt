use Rattle.line_rules.proofs.Monotone.{bound_holds}
use Rattle.line_rules.proofs.laws.every_bound_holds.Goals as goal

pub returns : goal.returns
returns c = bound_holds
