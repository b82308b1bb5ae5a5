use Rattle.laws_name.proofs.OtherNames.{changed_nothing}
use Rattle.laws_name.proofs.laws.names_change_nothing.Goals as goal

pub returns : goal.returns
returns c = changed_nothing
