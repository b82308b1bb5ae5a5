use Rattle.std.proofs.Common.{◌≤◌, ◌++◌, ◌∙◌, ℕ, List, length, ap, sym, subst, codes, decimal}
use Rattle.line_drawing.proofs.NoteFacts.{count_short}
use Rattle.line_drawing.proofs.notes.counted.Goals as goal

pub returns-clause-short : goal.returns-clause-short
returns-clause-short c =
    let P : List ℕ → Type 0 = λ t. length t ≤ 40 in
    subst P (sym (c.in_ok-write.ensures.bytes ∙ ap (λ (t : List ℕ). t ++ (decimal c.args.count ++ codes " tasks"))
    c.new-text.ensures.bytes)) (count_short c.args.count c.ranges.count.fits)
