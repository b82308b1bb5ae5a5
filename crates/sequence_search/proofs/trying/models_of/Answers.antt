use Rattle.std.proofs.Common.{◌≡◌, ◌+◌, ◌++◌, ◌∷◌, [], List, ℕ, take, ap, sym, ◌∙◌}
use Rattle.std.specs.Prelude.{unwrap_or}
use Rattle.std.proofs.lemmas.List.{map-append}
use Rattle.sequence_values.specs.declared.types.SeqFrame.{SeqFrame}
use Rattle.sequence_search.specs.inner.Paths.{lasts}
use Rattle.sequence_search.proofs.EndFacts.{take_next}
use Rattle.sequence_search.proofs.trying.models_of.Goals as goal

pub loop-k-preserved : goal.loop-k-preserved
loop-k-preserved c =
    let more : take (c.loop-k.k + 1) c.args.frames.now ≡ take c.loop-k.k c.args.frames.now ++ c.at.result.now ∷ [] =
    take_next c.args.frames.now c.loop-k.k c.at.result.now c.at.ensures in
    let whole : lasts (take (c.loop-k.k + 1) c.args.frames.now) ≡ lasts (take c.loop-k.k c.args.frames.now)
    ++ unwrap_or c.at.result.now.last 0 ∷ [] =
    ap (λ (xs : List SeqFrame). lasts xs) more ∙ map-append (λ (g : SeqFrame). unwrap_or g.last 0)
    (take c.loop-k.k c.args.frames.now) (c.at.result.now ∷ []) in
    c.in_ok-push.ensures.items ∙ ap (λ (xs : List ℕ). xs ++ c.from.result ∷ []) c.loop-k.invariant
    ∙ ap (λ n. lasts (take c.loop-k.k c.args.frames.now) ++ n ∷ []) (c.from.ensures ∙ c.unwrap_or.ensures) ∙ sym whole
