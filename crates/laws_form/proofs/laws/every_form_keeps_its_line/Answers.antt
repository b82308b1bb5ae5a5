use Rattle.laws_form.proofs.FormFacts.{every_form}
use Rattle.laws_form.proofs.laws.every_form_keeps_its_line.Goals as goal

pub returns : goal.returns
returns c = every_form
