use Rattle.std.proofs.Common.{◌≡◌, ◌-◌, ◌++◌, string_bytes}
use Rattle.named_drawing.specs.TaskList.{headings_from}
use Rattle.named_drawing.proofs.task_list.push_headings.Given as goal

abbrev pub invariant-loop-column : goal.invariant-loop-column
invariant-loop-column l = string_bytes l.text ++ headings_from l.page l.column (l.columns - l.column)
    ≡ string_bytes l.fn.text ++ headings_from l.page 0 l.columns
