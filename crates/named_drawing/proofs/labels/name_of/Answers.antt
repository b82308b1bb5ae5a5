use Rattle.std.proofs.Common.{◌≤◌, ℕ, List, length, subst, sym}
use Rattle.named_drawing.proofs.NameFacts.{name_short}
use Rattle.named_drawing.proofs.labels.name_of.Goals as goal

pub returns-clause-short : goal.returns-clause-short
returns-clause-short c =
    let P : List ℕ → Type 0 = λ t. length t ≤ 64 in
    subst P (sym c.at.ensures) (name_short c.args.names.now c.len-many.ensures.names c.args.task)
