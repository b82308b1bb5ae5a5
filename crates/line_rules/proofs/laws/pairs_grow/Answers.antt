use Rattle.line_rules.proofs.PairGrowth.{grow}
use Rattle.line_rules.proofs.laws.pairs_grow.Goals as goal

pub returns : goal.returns
returns c = grow
