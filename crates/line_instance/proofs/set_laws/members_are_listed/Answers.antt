use Rattle.line_instance.proofs.ListedMembers.{listed}
use Rattle.line_instance.proofs.set_laws.members_are_listed.Goals as goal

pub returns : goal.returns
returns c = listed
