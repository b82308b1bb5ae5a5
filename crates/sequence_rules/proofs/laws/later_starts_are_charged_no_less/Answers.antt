use Rattle.sequence_rules.proofs.RowFacts.{later_charged}
use Rattle.sequence_rules.proofs.laws.later_starts_are_charged_no_less.Goals as goal

pub returns : goal.returns
returns c = later_charged
