use Rattle.worked_lines.proofs.SixTasks.{branches_of_the_rows}
use Rattle.worked_lines.proofs.laws.the_branches_of_the_rows.Goals as goal

pub returns : goal.returns
returns c = branches_of_the_rows
