use Rattle.sequence_rules.proofs.LemmasHold.{by_any}
use Rattle.sequence_rules.proofs.laws.following_keeps_truth.Goals as goal

pub returns : goal.returns
returns c = by_any
