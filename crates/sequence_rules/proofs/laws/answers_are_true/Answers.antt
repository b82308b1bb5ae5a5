use Rattle.sequence_rules.proofs.LemmasHold.{answers_hold}
use Rattle.sequence_rules.proofs.laws.answers_are_true.Goals as goal

pub returns : goal.returns
returns c = answers_hold
