use Rattle.lemma_core.proofs.Runs.{history_replayed}
use Rattle.lemma_core.proofs.laws.history_replays.Goals as goal

pub returns : goal.returns
returns c = history_replayed
