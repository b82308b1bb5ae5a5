use Rattle.line_rules.proofs.ListUnits.{derived_counted}
use Rattle.line_rules.proofs.laws.derived_has_units.Goals as goal

pub returns : goal.returns
returns c = λ kind line ok ranked es d. derived_counted line ok ranked kind es d
