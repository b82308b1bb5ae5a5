use Rattle.std.proofs.Common.{◌≡◌}
use Rattle.task_table.specs.inner.Reading.{no_tasks, rest_said}
use Rattle.task_table.specs.inner.RecordsLeft.{IsReading, records_of}
use Rattle.task_table.proofs.tasks.rest_of.Given as goal

abbrev pub invariant-loop-number : goal.invariant-loop-number
invariant-loop-number l = record {
  reading : IsReading l.reader;
  said : rest_said l.columns (records_of l.reader) l.number l.tasks
      ≡ rest_said l.columns (records_of l.initial.reader) 2 no_tasks;
}
