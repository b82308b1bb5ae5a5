use Rattle.line_rules.proofs.Monotone.{answers_on}
use Rattle.line_rules.proofs.laws.answers_lead_on.Goals as goal

pub returns : goal.returns
returns c = answers_on
