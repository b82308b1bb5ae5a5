use Rattle.sequence_rules.proofs.LemmasHold.{sound}
use Rattle.sequence_rules.proofs.laws.every_entry_holds.Goals as goal

pub returns : goal.returns
returns c = sound
