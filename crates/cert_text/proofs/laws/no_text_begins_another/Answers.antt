use Rattle.cert_text.proofs.LineTexts.{begins_none}
use Rattle.cert_text.proofs.laws.no_text_begins_another.Goals as goal

pub returns : goal.returns
returns c = begins_none
