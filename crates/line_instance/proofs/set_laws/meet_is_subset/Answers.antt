use Rattle.line_instance.proofs.Members.{In-meet_parts}
use Rattle.line_instance.proofs.set_laws.meet_is_subset.Goals as goal

pub returns : goal.returns
returns c = λ a b i m. (In-meet_parts a b i m).0
