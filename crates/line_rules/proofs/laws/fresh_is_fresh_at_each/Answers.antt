use Rattle.line_rules.proofs.Monotone.{fresh_at_each}
use Rattle.line_rules.proofs.laws.fresh_is_fresh_at_each.Goals as goal

pub returns : goal.returns
returns c = fresh_at_each
