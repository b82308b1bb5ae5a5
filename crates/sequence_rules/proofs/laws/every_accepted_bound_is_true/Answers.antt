use Rattle.sequence_rules.proofs.LemmasHold.{proved}
use Rattle.sequence_rules.proofs.laws.every_accepted_bound_is_true.Goals as goal

pub returns : goal.returns
returns c = proved
