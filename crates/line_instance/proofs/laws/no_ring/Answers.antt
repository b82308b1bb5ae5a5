use Rattle.line_instance.proofs.Unique.{no_ring}
use Rattle.line_instance.proofs.laws.no_ring.Goals as goal

pub returns : goal.returns
returns c = no_ring
