use Rattle.line_rules.proofs.Monotone.{units_same}
use Rattle.line_rules.proofs.laws.units_are_unique.Goals as goal

pub returns : goal.returns
returns c = units_same
