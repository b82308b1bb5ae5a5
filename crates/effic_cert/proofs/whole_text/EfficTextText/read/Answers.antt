use Rattle.effic_cert.proofs.PartFacts.{products_tell}
use Rattle.effic_cert.proofs.whole_text.EfficTextText.read.Goals as goal

pub read_text-requires-clause-tells : goal.read_text-requires-clause-tells
read_text-requires-clause-tells c = products_tell
