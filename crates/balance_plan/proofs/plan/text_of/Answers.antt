use Rattle.std.proofs.Common.{◌≡◌, ◌∙◌, ◌++◌, ◌∷◌, ℕ, List, ap}
use Rattle.std.specs.Prelude.{map}
use Rattle.std.proofs.lemmas.Result.{IfOk-weaker}
use Rattle.sheet_rows.proofs.SheetFacts.{rows_alone}
use Rattle.sheet_rows.specs.SheetRows.{Sheet, rows_text, with_row, with_rows}
use Rattle.balance_plan.specs.Plan.{bom_text, plan_heading, plan_record, plan_text, turns_of}
use Rattle.balance_plan.proofs.plan.text_of.Goals as goal

pub returns : goal.returns
returns c =
    let line = c.args.inst.now in
    let b = c.args.balance.now in
    let records : List (List (List ℕ)) =
    map (plan_record line c.args.names.now) (turns_of line c.args.cycle b) in
    let text : c.in_ok-rows.rows.items ≡ rows_text c.args.mark (plan_heading ∷ records) =
    c.in_ok-rows.ensures
    ∙ ap (λ (s : Sheet). s.text) (c.in_ok-put_stations.ensures
    ∙ ap (λ s. with_rows s records) c.in_ok-put_heading.ensures
    ∙ ap (λ s. with_rows (with_row s plan_heading) records) c.new-sheet.ensures)
    ∙ rows_alone c.args.mark (plan_heading ∷ records) in
    IfOk-weaker c.behind_bom.result (λ t. t.items ≡ bom_text c.args.bom ++ c.in_ok-rows.rows.items)
    (λ t. t.items ≡ plan_text line c.args.names.now c.args.cycle b c.args.mark c.args.bom)
    (λ t e. e ∙ ap (λ x. bom_text c.args.bom ++ x) text) c.behind_bom.ensures
