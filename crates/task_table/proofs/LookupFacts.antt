-- The task of a name, found by any means: with distinct names there is one.
use Rattle.std.proofs.Common.{◌≡◌, ◌<◌, ℕ, List, [], length}
use Rattle.std.proofs.Common.{Option, Some, None, refl, sym, ◌∙◌, ap}
use Rattle.std.specs.Prelude.{bytes_eq}
use Rattle.std.proofs.lemmas.List.Quantifiers.{position-Some}
use Rattle.std.proofs.lemmas.Slice.Eq.{bytes_eq-Decides}
use Rattle.task_names.specs.TaskNames.{name_at, task_named, AreDistinct}
use Rattle.task_table.proofs.ListFacts.{found_first}

pub named_here : (names : List (List ℕ)) (name : List ℕ) (task : ℕ) → AreDistinct names → task < length names
    → name_at names task ≡ name → task_named names name ≡ Some task
named_here names name task d h e = by (task_named names name) refl
  where
    by : (o : Option ℕ) → task_named names name ≡ o → task_named names name ≡ Some task
    by None is =
        let found = found_first (λ n. bytes_eq n name) names task [] h ((bytes_eq-Decides
        (name_at names task) name).1 e) in
        cc (sym is ∙ found)
    by (Some j) is =
        let p = position-Some (λ n. bytes_eq n name) names j [] is in
        let same : name_at names j ≡ name = (bytes_eq-Decides (name_at names j) name).0 p.1 in
        is ∙ ap (λ k. Some k) (d j task p.0 h (same ∙ sym e))
