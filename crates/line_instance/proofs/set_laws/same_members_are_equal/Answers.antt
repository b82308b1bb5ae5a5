use Rattle.line_instance.proofs.Counts.{same_members}
use Rattle.line_instance.proofs.set_laws.same_members_are_equal.Goals as goal

pub returns : goal.returns
returns c = same_members
