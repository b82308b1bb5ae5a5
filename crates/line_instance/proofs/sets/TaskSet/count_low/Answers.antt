use Rattle.std.proofs.Common.{◌∙◌, sym, subst, ap, List, Bool, ℕ, ◌<◌}
use Rattle.line_instance.specs.Truths.{In, count}
use Rattle.line_instance.proofs.LowWords.{low_count}
use Rattle.line_instance.proofs.sets.TaskSet.count_low.Goals as goal

pub returns-clause-value : goal.returns-clause-value
returns-clause-value c =
    let L : List Bool → Type 0 = λ t. (i : ℕ) → In t i → i < 128 in
    low_count c.self.inside.words c.self.invariant (subst L (sym c.self.view_is) c.requires)
    ∙ ap count c.self.view_is
