use Rattle.line_instance.proofs.Unique.{ranks_inverse}
use Rattle.line_instance.proofs.laws.ranks_are_inverse.Goals as goal

pub returns : goal.returns
returns c = ranks_inverse
