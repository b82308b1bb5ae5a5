use Rattle.entry_lists.proofs.TrimFacts.{derived_earlier}
use Rattle.entry_lists.proofs.laws.derived_cites_earlier.Goals as goal

pub returns : goal.returns
returns c = derived_earlier
