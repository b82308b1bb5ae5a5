use Rattle.worked_lines.proofs.SevenTasks.{swap_of_the_rows}
use Rattle.worked_lines.proofs.laws.the_swap_of_the_rows.Goals as goal

pub returns : goal.returns
returns c = swap_of_the_rows
