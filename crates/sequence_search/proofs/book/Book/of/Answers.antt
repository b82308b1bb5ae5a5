use Rattle.std.proofs.Common.{◌++◌, ◌∷◌, [], List, take, ap, sym, ◌∙◌}
use Rattle.sequence_values.specs.declared.types.SeqEntry.{SeqEntry}
use Rattle.sequence_search.proofs.EndFacts.{take_next}
use Rattle.sequence_search.proofs.book.Book.of.Goals as goal

pub loop-k-preserved : goal.loop-k-preserved
loop-k-preserved c =
    c.in_ok-push.ensures.ok ∙ ap (λ (xs : List SeqEntry). xs ++ c.in_ok-copy.field-0 ∷ []) c.loop-k.invariant
    ∙ ap (λ (e : SeqEntry). take c.loop-k.k c.args.entries.now ++ e ∷ []) c.in_ok-copy.ensures.equal
    ∙ sym (take_next c.args.entries.now c.loop-k.k c.at.result.now c.at.ensures)
