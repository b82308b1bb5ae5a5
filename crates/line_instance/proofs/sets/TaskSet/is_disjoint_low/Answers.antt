use Rattle.std.proofs.Common.{sym, subst, ap, ◌∙◌, List, Bool, bit_or, bit_and, get_or, ℕ, ◌<◌}
use Rattle.line_instance.specs.Truths.{In, IsEmpty, meet, truths_of}
use Rattle.line_instance.proofs.LowWords.{meet_none, none_meet}
use Rattle.std.proofs.lemmas.Bool.{eqb-true, eq-eqb}
use Rattle.line_instance.proofs.sets.TaskSet.is_disjoint_low.Goals as goal

pub returns : goal.returns
returns c =
    let ws = c.self.inside.words in
    let vs = c.other.inside.words in
    let P : List Bool → Type 0 = λ t. IsEmpty t in
    let L : List Bool → Type 0 = λ t. (i : ℕ) → In t i → i < 128 in
    let low = subst L (sym c.self.view_is) c.requires in
    let both = ap (λ a. meet a (truths_of vs)) c.self.view_is ∙ ap (λ b. meet c.args.self.now b) c.other.view_is in
    let word = bit_or (bit_and (get_or ws 0 0) (get_or vs 0 0)) (bit_and (get_or ws 1 0) (get_or vs 1 0)) in (
      λ e. subst P both (meet_none ws vs c.self.invariant c.other.invariant low (eqb-true word 0 e)),
      λ h. eq-eqb word 0 (none_meet ws vs c.self.invariant c.other.invariant low (subst P (sym both) h)),
    )
