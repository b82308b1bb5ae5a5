use Rattle.worked_lines.proofs.Events.{events_of_the_rows}
use Rattle.worked_lines.proofs.laws.the_events_of_the_rows.Goals as goal

pub returns : goal.returns
returns c = events_of_the_rows
