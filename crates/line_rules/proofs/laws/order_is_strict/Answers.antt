use Rattle.line_rules.proofs.Unique.{precedes_itself, precedes_trans}
use Rattle.line_rules.proofs.laws.order_is_strict.Goals as goal

pub returns : goal.returns
returns c = record { never = precedes_itself; on = precedes_trans }
