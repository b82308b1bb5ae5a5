use Rattle.std.proofs.Common.{◌≡◌, ◌∙◌, ap, sym, subst, true}
use Rattle.csv.specs.Records.{fields_of}
use Rattle.line_io.specs.Lines.{value_of}
use Rattle.task_table.specs.Records.{field, says}
use Rattle.task_table.specs.Rows.{task_fault}
use Rattle.task_table.specs.inner.Reading.{Stops, record_said}
use Rattle.task_table.specs.declared.stop.Stop.{Stop}
use Rattle.task_table.proofs.TaskFacts.{no_kind, some_kind, one_task, one_fault}
use Rattle.task_table.proofs.tasks.Tasks.take.Goals as goal

pub with_task-requires-clause-time : goal.with_task-requires-clause-time
with_task-requires-clause-time c =
    (no_kind (task_fault c.args.columns c.self.inside.names (fields_of c.args.row.now))
    (value_of (field (fields_of c.args.row.now) 1)) c.in-Ok.time c.in-Ok.ensures).1

pub returns-in_ok-with_task-in-Ok : goal.returns-in_ok-with_task-in-Ok
returns-in_ok-with_task-in-Ok c =
    let yes : says (fields_of c.args.row.now) ≡ true = sym c.says_from.ensures ∙ c.if-not-says_from.false in
    let none = (no_kind (task_fault c.args.columns c.self.inside.names (fields_of c.args.row.now))
    (value_of (field (fields_of c.args.row.now) 1)) c.in-Ok.time c.in-Ok.ensures).0 in
    one_task c.args.columns c.args.number (fields_of c.args.row.now) c.args.self c.in_ok-with_task-in-Ok.field-0 yes
    (ap (λ d. task_fault c.args.columns d.names (fields_of c.args.row.now)) (sym c.self.view_is) ∙ none)
    c.in_ok-with_task-in-Ok.ensures

pub returns-in-Err : goal.returns-in-Err
returns-in-Err c =
    let yes : says (fields_of c.args.row.now) ≡ true = sym c.says_from.ensures ∙ c.if-not-says_from.false in
    let some = some_kind (task_fault c.args.columns c.self.inside.names (fields_of c.args.row.now))
    (value_of (field (fields_of c.args.row.now) 1)) c.in-Err.kind c.in-Err.ensures in
    let P : Stop → Type 0 = λ e. Stops e (record_said c.args.columns c.args.number
    (fields_of c.args.row.now) c.args.self)
    in
    subst P (sym c.at_record.ensures) (one_fault c.args.columns c.args.number (fields_of c.args.row.now) c.args.self
    c.in-Err.kind yes
    (ap (λ d. task_fault c.args.columns d.names (fields_of c.args.row.now)) (sym c.self.view_is) ∙ some))
