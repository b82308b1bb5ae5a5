use Rattle.line_rules.proofs.Monotone.{stands_alone}
use Rattle.line_rules.proofs.laws.each_task_may_stand_alone.Goals as goal

pub returns : goal.returns
returns c = stands_alone
