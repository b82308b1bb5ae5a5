use Rattle.worked_lines.proofs.FiveTasks.{certificate_of_the_rows}
use Rattle.worked_lines.proofs.laws.the_certificate_of_the_rows.Goals as goal

pub returns : goal.returns
returns c = certificate_of_the_rows
