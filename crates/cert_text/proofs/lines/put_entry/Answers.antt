use Rattle.std.proofs.Common.{ap, ◌∙◌, sym}
use Rattle.cert_lines.specs.Numbers.{cites_text}
use Rattle.cert_lines.specs.Rows.{line_text}
use Rattle.cert_lines.specs.ValueRows.{why_row}
use Rattle.std.proofs.Common.{Some}
use Rattle.cert_text.proofs.PutTexts.{puts_as, ◌▹◌}
use Rattle.cert_lines.specs.Numbers.{set_text}
use Rattle.cert_text.proofs.PutLines.{bound_spelled, branch_spelled, swap_spelled, pairs_spelled}
use Rattle.cert_text.proofs.lines.put_entry.Goals as goal

pub returns-in-Bound : goal.returns-in-Bound
returns-in-Bound g c =
    puts_as _ _ _ _ _ (c.put_text.ensures ▹ c.put_question.ensures ▹ c.put.ensures)
    (ap (λ w. line_text (why_row c.args.tasks (Some c.args.entry.now.cycle) c.args.entry.now w)) c.in-Bound.is
    ∙ bound_spelled c.args.tasks c.args.entry.now)

pub returns-in-Branch : goal.returns-in-Branch
returns-in-Branch g c =
    puts_as _ _ _ _ _ (c.put_text-in-Branch.ensures ▹ c.put_mode.ensures ▹ c.put_question-in-Branch.ensures ▹
    c.put-in-Branch.ensures
    ▹ puts_as _ _ _ _ _ c.put_cites.ensures (ap cites_text (sym c.as_slice.ensures)) ▹ c.put-in-Branch-2.ensures)
    (ap (λ w. line_text (why_row c.args.tasks (Some c.args.entry.now.cycle) c.args.entry.now w)) c.in-Branch.is
    ∙ branch_spelled c.args.tasks c.args.entry.now c.in-Branch.mode c.in-Branch.cites)

pub returns-in-Swap : goal.returns-in-Swap
returns-in-Swap g c =
    puts_as _ _ _ _ _ (c.put_text-in-Swap.ensures ▹ c.put_question-in-Swap.ensures ▹ c.put_swap.ensures ▹
    c.put-in-Swap.ensures)
    (ap (λ w. line_text (why_row c.args.tasks (Some c.args.entry.now.cycle) c.args.entry.now w)) c.in-Swap.is
    ∙ swap_spelled c.args.tasks c.args.entry.now c.in-Swap.cite c.in-Swap.out_task c.in-Swap.in_task)

pub returns-in-Pairs : goal.returns-in-Pairs
returns-in-Pairs g c =
    puts_as _ _ _ _ _ (c.put_text-in-Pairs.ensures ▹ c.put_question-in-Pairs.ensures ▹ c.put-in-Pairs.ensures
    ▹ puts_as _ _ _ _ _ c.put_set.ensures (ap (set_text c.args.tasks) (sym c.set.ensures)) ▹ c.put-in-Pairs-2.ensures)
    (ap (λ w. line_text (why_row c.args.tasks (Some c.args.entry.now.cycle) c.args.entry.now w)) c.in-Pairs.is
    ∙ pairs_spelled c.args.tasks c.args.entry.now c.in-Pairs.two)
