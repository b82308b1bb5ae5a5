use Rattle.line_instance.proofs.Ahead.{left_at_start}
use Rattle.line_instance.proofs.sets.TaskSet.iter.Goals as goal

pub returns : goal.returns
returns c = left_at_start c.args.self.now
