use Rattle.std.proofs.Common.{◌∙◌, ◌+◌, ◌++◌, ℕ, List, ap, string_bytes}
use Rattle.line_drawing.specs.Parts.{text_of}
use Rattle.line_drawing.proofs.Chains.{behind}
use Rattle.named_drawing.specs.Page.{list_top, times_x}
use Rattle.named_drawing.specs.TaskList.{heading_of, name_word_parts, number_word_parts}
use Rattle.named_drawing.proofs.task_list.push_heading.Goals as goal

pub returns : goal.returns
returns c =
    let p = c.args.page.now in
    let x : ℕ = c.column_x-x.result in
    let old : List ℕ = string_bytes c.args.text.now in
    let a : ℕ → List ℕ = λ y. text_of (name_word_parts (x + 40) (y + 12)) in
    let b : ℕ → ℕ → ℕ → List ℕ = λ t s y. text_of (number_word_parts t s (y + 12)) in
    behind old (a c.list_top-y.result) (b c.times_x-time_x.result c.stations_x-station_x.result c.list_top-y.result)
    c.in_ok-push_name_word.ensures c.in_ok-push_number_words.ensures
    ∙ ap (λ y. old ++ (a y ++ b c.times_x-time_x.result c.stations_x-station_x.result y)) c.list_top-y.ensures
    ∙ ap (λ t. old ++ (a (list_top p) ++ b t c.stations_x-station_x.result (list_top p))) c.times_x-time_x.ensures
    ∙ ap (λ t. old ++ (a (list_top p) ++ b (times_x p x) t (list_top p))) c.stations_x-station_x.ensures
    ∙ ap (λ t. old ++ heading_of p t) c.column_x-x.ensures.place
