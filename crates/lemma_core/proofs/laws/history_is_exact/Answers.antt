use Rattle.lemma_core.proofs.ExactItems.{history_exact}
use Rattle.lemma_core.proofs.laws.history_is_exact.Goals as goal

pub returns : goal.returns
returns c = history_exact
