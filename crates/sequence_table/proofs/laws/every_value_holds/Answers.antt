use Rattle.sequence_table.proofs.ValueFacts.{value_holds}
use Rattle.sequence_table.proofs.laws.every_value_holds.Goals as goal

pub returns : goal.returns
returns c = value_holds
