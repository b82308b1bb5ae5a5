use Rattle.line_instance.proofs.Unique.{answers}
use Rattle.line_instance.proofs.laws.answer_is_one.Goals as goal

pub returns : goal.returns
returns c = answers
