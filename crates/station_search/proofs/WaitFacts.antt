-- Two calls that add no event of their own, one after the other.
use Rattle.std.proofs.Common.{◌∙◌}
use Rattle.lemma_core.specs.Desks.{DeskView, Waits}
use Rattle.lemma_core.proofs.HistoryGrows.{keeps_both}

pub waits_both : (old mid new : DeskView) → Waits old mid → Waits mid new → Waits old new
waits_both old mid new a b = record {
  keeps = keeps_both old mid new a.keeps b.keeps;
  own = b.own ∙ a.own;
  still = λ t. b.still (a.keeps.alone ∙ t) ∙ a.still t;
}
