use Rattle.std.proofs.Common.{◌∙◌, sym, ap, length}
use Rattle.line_instance.specs.inner.Words.{length-truths}
use Rattle.line_instance.proofs.sets.TaskSet.capacity.Goals as goal

pub returns-clause-truths : goal.returns-clause-truths
returns-clause-truths c = sym (ap length c.self.view_is) ∙ length-truths c.self.inside.words
