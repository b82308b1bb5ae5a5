-- The worked row, by computing.
use Rattle.std.proofs.Common.{refl}
use Rattle.line_instance.specs.Truths.{full_to}
use Rattle.worked_lines.specs.Events.{EventsOfTheRows}

pub events_of_the_rows : EventsOfTheRows
unfolding full_to
events_of_the_rows = record { answers = refl; items = refl }
