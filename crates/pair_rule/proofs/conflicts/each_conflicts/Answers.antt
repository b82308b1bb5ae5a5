use Rattle.line_rules.proofs.GoneOver.{over_start}
use Rattle.pair_rule.proofs.conflicts.each_conflicts.Goals as goal

pub loop-i-init : goal.loop-i-init
loop-i-init c = record {
  can_next = tt;
  finite = tt;
  over = over_start _ _ _ _ (λ j m. m) c.into_iter-i-iterator.ensures.into_iter_gives;
}
