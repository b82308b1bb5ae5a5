use Rattle.line_instance.proofs.Unique.{kept_is_one}
use Rattle.line_instance.proofs.laws.kept_is_one.Goals as goal

pub returns : goal.returns
returns c = kept_is_one
