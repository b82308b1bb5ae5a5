use Rattle.line_instance.proofs.Counts.{disjoint_counts}
use Rattle.line_instance.proofs.set_laws.disjoint_counts_add.Goals as goal

pub returns : goal.returns
returns c = disjoint_counts
