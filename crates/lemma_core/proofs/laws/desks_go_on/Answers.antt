use Rattle.lemma_core.proofs.HistoryGrows.{keeps_none, keeps_both, follows_still}
use Rattle.lemma_core.proofs.laws.desks_go_on.Goals as goal

pub returns : goal.returns
returns c = record { none = keeps_none; both = keeps_both; follows = follows_still }
