use Rattle.sequence_rules.proofs.RowFacts.{charged_steps}
use Rattle.sequence_rules.proofs.laws.every_charged_cost_is_of_units.Goals as goal

pub returns : goal.returns
returns c = charged_steps
