use Rattle.std.proofs.Common.{◌≡◌, ◌∙◌, ◌+◌, ◌-◌, ◌++◌, ℕ, List, ap, sym, arith, suc, add-one, append_assoc}
use Rattle.std.proofs.Common.{string_bytes}
use Rattle.line_instance.specs.Line.{tasks}
use Rattle.line_drawing.specs.Parts.{text_of}
use Rattle.named_drawing.specs.TaskList.{entries_from, entry_of}
use Rattle.named_drawing.proofs.task_list.push_entries.Goals as goal

pub loop-task-preserved : goal.loop-task-preserved
loop-task-preserved c =
    let k : ℕ = c.loop-task.task in
    let line = c.args.inst.now in
    let n : ℕ = tasks line - (k + 1) in
    let one : tasks line - k ≡ suc n = omega (arith, c.loop-task-test.true, c.tasks-task-end.ensures.tasks) in
    let p = c.args.page.now in
    let names : List (List ℕ) = c.args.names.now in
    let places = c.args.places.now in
    let old : List ℕ = string_bytes c.loop-task.text in
    ap (λ (t : List ℕ). t ++ text_of (entries_from line p names places (k + 1) n)) c.in_ok-push_task.ensures
    ∙ append_assoc old (entry_of line p names places k) (text_of (entries_from line p names places (k + 1) n))
    ∙ ap (λ (j : ℕ). old ++ (entry_of line p names places k ++ text_of (entries_from line p names places j n)))
    (add-one k)
    ∙ sym (ap (λ (m : ℕ). old ++ text_of (entries_from line p names places k m)) one)
    ∙ c.loop-task.invariant
