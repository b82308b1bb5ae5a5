use Rattle.lemma_core.proofs.OwnFacts.{did_none, did_waits, did_adds, did_both, at_longer}
use Rattle.lemma_core.proofs.laws.own_events_go_on.Goals as goal

pub returns : goal.returns
returns c = record { none = did_none; waits = did_waits; adds = did_adds; both = did_both; there = at_longer }
