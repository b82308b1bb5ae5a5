use Rattle.laws_form.proofs.OneText.{one_text}
use Rattle.laws_form.proofs.laws.every_line_has_one_text.Goals as goal

pub returns : goal.returns
returns c = one_text
