use Rattle.sequence_cert.proofs.PartFacts.{begins_none}
use Rattle.sequence_cert.proofs.laws.no_sequence_text_begins_another.Goals as goal

pub returns : goal.returns
returns c = begins_none
