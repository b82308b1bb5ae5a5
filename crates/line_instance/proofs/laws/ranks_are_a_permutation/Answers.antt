use Rattle.line_instance.proofs.Unique.{ranks_are_permutation}
use Rattle.line_instance.proofs.laws.ranks_are_a_permutation.Goals as goal

pub returns : goal.returns
returns c = ranks_are_permutation
