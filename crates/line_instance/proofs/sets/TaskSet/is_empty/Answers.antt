use Rattle.std.proofs.Common.{sym, List, Bool, bit_or, subst}
use Rattle.line_instance.specs.Truths.{IsEmpty}
use Rattle.line_instance.proofs.Bits.{fold-or, fold-or_zeros, empty_words, words_empty}
use Rattle.std.proofs.lemmas.Bool.{eqb-true, eq-eqb}
use lib.Lanes.{fold_l}
use Rattle.line_instance.proofs.sets.TaskSet.is_empty.Goals as goal

pub returns : goal.returns
returns c =
    let ws = c.self.inside.words in
    let P : List Bool → Type 0 = λ t. IsEmpty t in (
      λ e. subst P c.self.view_is (empty_words ws c.self.invariant
          (fold-or 0 ws (eqb-true (fold_l bit_or 0 ws) 0 e)).1),
      λ h. eq-eqb (fold_l bit_or 0 ws) 0 (fold-or_zeros ws (words_empty ws c.self.invariant
          (subst P (sym c.self.view_is) h))),
    )
