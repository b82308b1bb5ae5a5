use Rattle.sequence_rules.proofs.CostFacts.{later_starts}
use Rattle.sequence_rules.proofs.laws.later_starts_cost_no_less.Goals as goal

pub returns : goal.returns
returns c = later_starts
