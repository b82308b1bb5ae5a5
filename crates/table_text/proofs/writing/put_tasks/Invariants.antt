use Rattle.std.proofs.Common.{◌≡◌}
use Rattle.std.specs.Prelude.{map, true}
use Rattle.sheet_rows.specs.SheetRows.{with_rows}
use Rattle.table_text.specs.TableText.{record_of, those_below}
use Rattle.table_text.proofs.writing.put_tasks.Given as goal

abbrev pub invariant-loop-task : goal.invariant-loop-task
invariant-loop-task l = l.sheet ≡ with_rows l.fn.sheet (map (record_of l.inst l.names l.paired)
    (those_below (λ i. true) l.task))
