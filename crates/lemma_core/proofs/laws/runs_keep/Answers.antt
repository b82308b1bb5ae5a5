use Rattle.lemma_core.proofs.Runs.{run_keeps}
use Rattle.lemma_core.proofs.laws.runs_keep.Goals as goal

pub returns : goal.returns
returns c = run_keeps
