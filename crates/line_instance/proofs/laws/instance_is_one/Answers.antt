use Rattle.line_instance.proofs.Unique.{instance_is_one}
use Rattle.line_instance.proofs.laws.instance_is_one.Goals as goal

pub returns : goal.returns
returns c = instance_is_one
