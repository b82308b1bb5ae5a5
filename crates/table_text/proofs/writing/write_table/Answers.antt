use Rattle.std.proofs.Common.{◌≡◌, ◌∙◌, ◌∷◌, ap}
use Rattle.std.proofs.lemmas.Result.{IfOk-weaker}
use Rattle.sheet_rows.proofs.SheetFacts.{rows_alone}
use Rattle.sheet_rows.specs.SheetRows.{Sheet, rows_text, with_row, with_rows}
use Rattle.table_text.specs.TableText.{heading, records_of, table_text}
use Rattle.table_text.proofs.writing.write_table.Goals as goal

pub returns : goal.returns
returns c =
    let line = c.args.inst.now in
    let names = c.args.names.now in
    let told = c.has_pair-paired.result in
    let text : c.put_tasks.new.sheet.text ≡ table_text line names =
    ap (λ (s : Sheet). s.text) (c.in_ok-put_tasks.ensures
    ∙ ap (λ s. with_rows s (records_of line names told)) c.in_ok-put_heading.ensures
    ∙ ap (λ s. with_rows (with_row s (heading told)) (records_of line names told)) c.new-sheet.ensures)
    ∙ rows_alone 44 (heading told ∷ records_of line names told)
    ∙ ap (λ b. rows_text 44 (heading b ∷ records_of line names b)) c.has_pair-paired.ensures in
    IfOk-weaker c.finish.result (λ t. t.items ≡ c.put_tasks.new.sheet.text) (λ t. t.items ≡ table_text line names)
    (λ t e. e ∙ text) c.finish.ensures
