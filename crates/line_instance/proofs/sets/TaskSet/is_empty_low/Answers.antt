use Rattle.std.proofs.Common.{sym, subst, List, Bool, bit_or, get_or, ℕ, ◌<◌}
use Rattle.line_instance.specs.Truths.{In, IsEmpty}
use Rattle.line_instance.proofs.LowWords.{low_empty, empty_low}
use Rattle.std.proofs.lemmas.Bool.{eqb-true, eq-eqb}
use Rattle.line_instance.proofs.sets.TaskSet.is_empty_low.Goals as goal

pub returns : goal.returns
returns c =
    let ws = c.self.inside.words in
    let P : List Bool → Type 0 = λ t. IsEmpty t in
    let L : List Bool → Type 0 = λ t. (i : ℕ) → In t i → i < 128 in
    let low = subst L (sym c.self.view_is) c.requires in
    let word = bit_or (get_or ws 0 0) (get_or ws 1 0) in (
      λ e. subst P c.self.view_is (low_empty ws c.self.invariant low (eqb-true word 0 e)),
      λ h. eq-eqb word 0 (empty_low ws c.self.invariant low (subst P (sym c.self.view_is) h)),
    )
