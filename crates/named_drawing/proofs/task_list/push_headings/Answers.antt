use Rattle.std.proofs.Common.{◌≡◌, ◌∙◌, ◌+◌, ◌-◌, ◌++◌, ℕ, List, ap, sym, arith, suc, add-one, append_assoc}
use Rattle.std.proofs.Common.{string_bytes}
use Rattle.named_drawing.specs.TaskList.{heading_text, headings_from}
use Rattle.named_drawing.proofs.task_list.push_headings.Goals as goal

pub loop-column-preserved : goal.loop-column-preserved
loop-column-preserved c =
    let k : ℕ = c.loop-column.column in
    let n : ℕ = c.filled_columns-columns.result - (k + 1) in
    let one : c.filled_columns-columns.result - k ≡ suc n = omega arith in
    let p = c.args.page.now in
    let old : List ℕ = string_bytes c.loop-column.text in
    ap (λ (t : List ℕ). t ++ headings_from p (k + 1) n) c.in_ok-push_heading.ensures
    ∙ append_assoc old (heading_text p k) (headings_from p (k + 1) n)
    ∙ ap (λ (j : ℕ). old ++ (heading_text p k ++ headings_from p j n)) (add-one k)
    ∙ sym (ap (λ (m : ℕ). old ++ headings_from p k m) one)
    ∙ c.loop-column.invariant
