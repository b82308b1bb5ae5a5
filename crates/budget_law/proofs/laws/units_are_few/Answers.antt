use Rattle.budget_law.proofs.FewUnits.{units_few}
use Rattle.budget_law.proofs.laws.units_are_few.Goals as goal

pub returns : goal.returns
returns c = units_few
