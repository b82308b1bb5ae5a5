use Rattle.line_instance.proofs.ListedMembers.{count_listed}
use Rattle.line_instance.proofs.set_laws.count_is_length.Goals as goal

pub returns : goal.returns
returns c = count_listed 0
