use Rattle.worked_lines.proofs.WorkedRows.{bounds_of_the_rows}
use Rattle.worked_lines.proofs.laws.the_bounds_of_the_rows.Goals as goal

pub returns : goal.returns
returns c = bounds_of_the_rows
