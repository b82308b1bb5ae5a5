use Rattle.line_rules.proofs.SubBalance.{restricted}
use Rattle.line_rules.proofs.laws.every_balance_carries_over.Goals as goal

pub returns : goal.returns
returns c = restricted
