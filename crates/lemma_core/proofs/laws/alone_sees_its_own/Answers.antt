use Rattle.lemma_core.proofs.OwnFacts.{saw_none, saw_waits, saw_adds, saw_both}
use Rattle.lemma_core.proofs.laws.alone_sees_its_own.Goals as goal

pub returns : goal.returns
returns c = record { none = saw_none; waits = saw_waits; adds = saw_adds; both = saw_both }
