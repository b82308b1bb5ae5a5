use Rattle.effic_cert.proofs.PartFacts.{begins_none}
use Rattle.effic_cert.proofs.laws.no_product_text_begins_another.Goals as goal

pub returns : goal.returns
returns c = begins_none
