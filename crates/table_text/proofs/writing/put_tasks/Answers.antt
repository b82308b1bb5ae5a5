use Rattle.std.proofs.Common.{◌∙◌, ◌∷◌, [], ℕ, List, ap, sym, true, add-one}
use Rattle.std.specs.Prelude.{map}
use Rattle.std.proofs.lemmas.List.{map-append}
use Rattle.sheet_rows.proofs.SheetFacts.{rows_after}
use Rattle.sheet_rows.specs.SheetRows.{with_row, with_rows}
use Rattle.table_text.specs.TableText.{record_of, those_below}
use Rattle.table_text.proofs.writing.put_tasks.Goals as goal

pub loop-task-preserved : goal.loop-task-preserved
loop-task-preserved c =
    let row : ℕ → List (List ℕ) = record_of c.args.inst.now c.args.names.now c.args.paired in
    let done : List ℕ = those_below (λ i. true) c.loop-task.task in
    c.in_ok-put_task.ensures
    ∙ ap (λ s. with_row s (row c.loop-task.task)) c.loop-task.invariant
    ∙ sym (rows_after c.args.sheet.now (map row done) (row c.loop-task.task ∷ []))
    ∙ ap (with_rows c.args.sheet.now) (sym (map-append row done (c.loop-task.task ∷ [])))
    ∙ ap (λ n. with_rows c.args.sheet.now (map row (those_below (λ i. true) n))) (sym (add-one c.loop-task.task))
