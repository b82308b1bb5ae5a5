use Rattle.sequence_check.proofs.OneVerdict.{verdict_one}
use Rattle.sequence_check.proofs.laws.verdict_is_one.Goals as goal

pub returns : goal.returns
returns c = verdict_one
