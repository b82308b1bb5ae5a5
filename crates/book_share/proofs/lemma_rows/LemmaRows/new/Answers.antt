use Rattle.std.proofs.Common.{◌≡◌, List, Option, Some, subst}
use Rattle.std.specs.Prelude.{slice_get}
use Rattle.book_share.specs.declared.lemma_rows.LemmaRow.{LemmaRow}
use Rattle.book_share.proofs.MemoFacts.{none_there}
use Rattle.book_share.proofs.lemma_rows.LemmaRows.new.Goals as goal

pub returns-in-Ok : goal.returns-in-Ok
returns-in-Ok c cycle es k r e =
    absurd (none_there 16384 k r (subst (λ (l : List (Option LemmaRow)). slice_get l k ≡ Some (Some r))
    c.in-Ok.ensures e))
