use Rattle.lemma_core.proofs.ExactItems.{exact_begins}
use Rattle.lemma_core.proofs.HistoryGrows.{entries_go_on, stations_go_on}
use Rattle.lemma_core.proofs.laws.history_goes_on.Goals as goal

pub returns : goal.returns
returns c = record { entries = entries_go_on; stations = stations_go_on; exact = exact_begins }
