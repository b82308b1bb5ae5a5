use Rattle.std.proofs.Common.{◌∙◌, ◌++◌, ◌+◌, ℕ, List, codes, decimal, string_bytes, sym, ap, append_assoc}
use Rattle.printed_verdict.proofs.print_verdict.push_infeasible.Goals as goal

pub returns : goal.returns
returns c =
    let old : List ℕ = string_bytes c.args.text.now in
    let task : List ℕ = codes "infeasible " ++ decimal (c.args.task + 1) in
    let more : List ℕ = c.args.word.now ++ decimal c.args.n in
    c.in_ok-push_one.ensures ∙ (ap (λ (t : List ℕ). t ++ more) c.in_ok-push_task.ensures
    ∙ (append_assoc old task more ∙ ap (λ (t : List ℕ). old ++ t)
    (sym (append_assoc task c.args.word.now (decimal c.args.n)))))
