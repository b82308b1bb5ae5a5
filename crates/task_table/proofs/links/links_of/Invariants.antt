use Rattle.std.proofs.Common.{◌≡◌, drop}
use Rattle.task_table.specs.inner.Reading.{no_links, lists_said}
use Rattle.task_table.proofs.links.links_of.Given as goal

abbrev pub invariant-loop-task : goal.invariant-loop-task
invariant-loop-task l = lists_said l.lookup l.task (drop l.task l.lists) l.links
    ≡ lists_said l.lookup 0 l.lists no_links
