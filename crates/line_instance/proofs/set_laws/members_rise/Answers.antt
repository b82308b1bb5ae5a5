use Rattle.line_instance.proofs.ListedMembers.{rising}
use Rattle.line_instance.proofs.set_laws.members_rise.Goals as goal

pub returns : goal.returns
returns c = rising 0
