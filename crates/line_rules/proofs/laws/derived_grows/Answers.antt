use Rattle.line_rules.proofs.LongerLists.{derived_push}
use Rattle.line_rules.proofs.Monotone.{derived_take}
use Rattle.line_rules.proofs.laws.derived_grows.Goals as goal

pub returns : goal.returns
returns c = record { more = derived_push; less = derived_take }
