use Rattle.line_rules.proofs.Ranks.{ranked_right}
use Rattle.line_rules.proofs.laws.every_ranked_balance_is_right.Goals as goal

pub returns : goal.returns
returns c = ranked_right
