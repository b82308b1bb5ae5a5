use Rattle.line_rules.proofs.PairSharing.{sound}
use Rattle.line_rules.proofs.laws.pairs_are_sound.Goals as goal

pub returns : goal.returns
returns c = sound
