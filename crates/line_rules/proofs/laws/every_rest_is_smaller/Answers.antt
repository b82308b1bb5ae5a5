use Rattle.line_rules.proofs.Monotone.{rest_smaller}
use Rattle.line_rules.proofs.laws.every_rest_is_smaller.Goals as goal

pub returns : goal.returns
returns c = rest_smaller
