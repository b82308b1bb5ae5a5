use Rattle.line_instance.proofs.Members.{In-minus_parts}
use Rattle.line_instance.proofs.set_laws.minus_is_subset.Goals as goal

pub returns : goal.returns
returns c = λ a b i m. (In-minus_parts a b i m).0
