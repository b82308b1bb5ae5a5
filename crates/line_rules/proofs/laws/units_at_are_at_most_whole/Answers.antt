use Rattle.line_rules.proofs.Monotone.{units_at_most}
use Rattle.line_rules.proofs.laws.units_at_are_at_most_whole.Goals as goal

pub returns : goal.returns
returns c = units_at_most
