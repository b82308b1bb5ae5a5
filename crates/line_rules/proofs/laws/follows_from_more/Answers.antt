use Rattle.line_rules.proofs.LongerLists.{follows_longer}
use Rattle.line_rules.proofs.laws.follows_from_more.Goals as goal

pub returns : goal.returns
returns c = follows_longer
