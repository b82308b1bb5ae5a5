-- The text of a table is that of its times, of what is before what, and of what is apart from what.
use Rattle.std.proofs.Common.{◌≡◌, ℕ, ◌&&◌, Bool, true, cond, decimal, not, List, [], ◌∷◌, length, get_or, ap, ◌∙◌}
use Rattle.std.specs.Prelude.{◌↔◌, map}
use Rattle.std.proofs.Math.Path.{fun_ext}
use Rattle.line_instance.proofs.Sums.{same_truth}
use Rattle.line_instance.specs.Line.{Line, Apart, Before, is_apart, is_before}
use Rattle.sheet_rows.specs.SheetRows.{rows_text}
use Rattle.task_names.specs.TaskNames.{name_at}
use Rattle.task_table.specs.Records.{Fields}
use Rattle.table_text.specs.TableText.{heading, listed, some_below, table_text, those_below}

-- the record of a task, of what is known of the tasks
abbrev record_in : List ℕ → (ℕ → ℕ → Bool) → (ℕ → ℕ → Bool) → List (List ℕ) → Bool → ℕ → Fields
record_in times before apart names paired j =
    name_at names j ∷ decimal (get_or times j 0)
    ∷ listed names (those_below (λ i. before i j && not (some_below (λ k. before i k && before k j) (length times)))
    (length times))
    ∷ cond paired (listed names (those_below (λ i. apart i j) j) ∷ []) []

abbrev text_in : List ℕ → (ℕ → ℕ → Bool) → (ℕ → ℕ → Bool) → List (List ℕ) → List ℕ
text_in times before apart names =
    let paired = some_below (λ j. some_below (λ i. apart i j) (length times)) (length times) in
    rows_text 44 (heading paired ∷ map (record_in times before apart names paired)
    (those_below (λ _. true) (length times)))

pub same_text : (t line : Line) (ns names : List (List ℕ)) → t.times ≡ line.times
    → ((i j : ℕ) → Before t i j ↔ Before line i j) → ((i j : ℕ) → Apart t i j ↔ Apart line i j) → ns ≡ names
    → table_text t ns ≡ table_text line names
same_text t line ns names times before apart same =
    let b : is_before t ≡ is_before line = fun_ext (λ i. fun_ext (λ j.
    same_truth (is_before t i j) (is_before line i j) (before i j).0 (before i j).1)) in
    let a : is_apart t ≡ is_apart line = fun_ext (λ i. fun_ext (λ j.
    same_truth (is_apart t i j) (is_apart line i j) (apart i j).0 (apart i j).1)) in
    ap (λ ts. text_in ts (is_before t) (is_apart t) ns) times
    ∙ ap (λ f. text_in line.times f (is_apart t) ns) b
    ∙ ap (λ f. text_in line.times (is_before line) f ns) a
    ∙ ap (text_in line.times (is_before line) (is_apart line)) same
