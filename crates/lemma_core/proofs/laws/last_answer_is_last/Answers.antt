use Rattle.lemma_core.proofs.Runs.{last_found, last_absent}
use Rattle.lemma_core.proofs.laws.last_answer_is_last.Goals as goal

pub returns : goal.returns
returns c = record { found = last_found; absent = last_absent }
