use Rattle.std.proofs.Common.{◌≡◌, ◌-◌, ◌++◌, string_bytes}
use Rattle.line_instance.specs.Line.{tasks}
use Rattle.line_drawing.specs.Parts.{text_of}
use Rattle.named_drawing.specs.TaskList.{entries_from}
use Rattle.named_drawing.proofs.task_list.push_entries.Given as goal

abbrev pub invariant-loop-task : goal.invariant-loop-task
invariant-loop-task l =
    string_bytes l.text ++ text_of (entries_from l.inst l.page l.names l.places l.task (tasks l.inst - l.task))
    ≡ string_bytes l.fn.text ++ text_of (entries_from l.inst l.page l.names l.places 0 (tasks l.inst))
