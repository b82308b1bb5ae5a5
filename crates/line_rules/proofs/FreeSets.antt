-- All tasks of a line are a set of its tasks.
use Rattle.line_instance.specs.Line.{Line, IsTaskSet}
use Rattle.line_rules.specs.Balance.{all_tasks}
use Rattle.line_rules.proofs.All.{In-all_lt, length-all}

pub all_of : (line : Line) → IsTaskSet line (all_tasks line)
all_of line = record { truths = length-all line; tasks = λ i m. In-all_lt line i m }
