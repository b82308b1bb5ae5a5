use Rattle.sequence_rules.proofs.CostFacts.{cost_steps}
use Rattle.sequence_rules.proofs.laws.every_cost_is_of_steps.Goals as goal

pub returns : goal.returns
returns c = cost_steps
