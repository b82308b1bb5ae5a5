use Rattle.effic_check.proofs.OneVerdict.{certificate_one}
use Rattle.effic_check.proofs.laws.verdict_is_one.Goals as goal

pub returns : goal.returns
returns c = record { certificate = certificate_one }
