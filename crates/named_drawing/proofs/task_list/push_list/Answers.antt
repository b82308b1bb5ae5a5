use Rattle.std.proofs.Common.{◌∙◌, ◌++◌, ℕ, List, ap, codes, string_bytes}
use Rattle.line_drawing.proofs.Chains.{behind, three}
use Rattle.named_drawing.specs.Page.{filled_columns}
use Rattle.named_drawing.specs.TaskList.{entries_text, headings_from}
use Rattle.named_drawing.proofs.task_list.push_list.Goals as goal

pub returns : goal.returns
returns c =
    let line = c.args.inst.now in
    let p = c.args.page.now in
    let old : List ℕ = string_bytes c.args.text.now in
    let entries : List ℕ = entries_text line p c.args.names.now c.args.places.now in
    let heads : ℕ → List ℕ = λ n. headings_from p 0 (filled_columns p n) in
    behind old (codes "<g text-anchor=\"end\">\n" ++ heads c.tasks-tasks.result ++ entries) (codes "</g>\n</svg>\n")
    (three old (codes "<g text-anchor=\"end\">\n") (heads c.tasks-tasks.result) entries
    c.in_ok-push_str.ensures.bytes c.in_ok-push_headings.ensures c.in_ok-push_entries.ensures)
    c.in_ok-push_str-2.ensures.bytes
    ∙ ap (λ n. old ++ (codes "<g text-anchor=\"end\">\n" ++ heads n ++ entries ++ codes "</g>\n</svg>\n"))
    c.tasks-tasks.ensures.tasks
