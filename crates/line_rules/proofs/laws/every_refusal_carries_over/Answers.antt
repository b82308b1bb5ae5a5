use Rattle.line_rules.proofs.SubBalance.{holds_more}
use Rattle.line_rules.proofs.laws.every_refusal_carries_over.Goals as goal

pub returns : goal.returns
returns c = holds_more
