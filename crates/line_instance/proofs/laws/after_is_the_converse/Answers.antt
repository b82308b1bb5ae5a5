use Rattle.line_instance.proofs.Unique.{after_is_converse}
use Rattle.line_instance.proofs.laws.after_is_the_converse.Goals as goal

pub returns : goal.returns
returns c = after_is_converse
