use Rattle.sequence_rules.proofs.CostFacts.{bound_holds}
use Rattle.sequence_rules.proofs.laws.every_bound_holds.Goals as goal

pub returns : goal.returns
returns c = bound_holds
