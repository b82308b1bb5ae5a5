use Rattle.lemma_core.proofs.OwnFacts.{entries_more, entries_added, named_longer}
use Rattle.lemma_core.proofs.laws.entries_go_on.Goals as goal

pub returns : goal.returns
returns c = record { more = entries_more; added = entries_added; named = named_longer }
