use Rattle.std.proofs.Common.{◌≡◌, ◌∙◌, ◌+◌, ap, sym, arith, subst, ℕ, List, Bool, true, set, take, [], slice_index_or}
use Rattle.std.proofs.Common.{length, get_or}
use Rattle.std.proofs.Math.ListN.{length-set}
use Rattle.std.proofs.lemmas.List.{take_more, get_or_read}
use Rattle.line_instance.specs.declared.arcs.Prec.{Prec}
use Rattle.line_instance.specs.inner.Inside.{ArePaired}
use Rattle.line_instance.proofs.JoinedRows.{marked}
use Rattle.line_instance.proofs.MarkedRows.{one_pair}
use Rattle.line_instance.proofs.rows.mark_pairs.Goals as goal

pub loop-pair-preserved : goal.loop-pair-preserved
loop-pair-preserved c =
    let n : ℕ = length c.args.rows.now in
    let rows : List (List Bool) = c.loop-pair.rows in
    let a : Prec = slice_index_or c.args.pairs.now c.loop-pair.pair-index (record { first = 0; «then» = 0 }) in
    let names = c.requires.pairs c.loop-pair.pair-index c.loop-pair-test.true in
    let new : Prec → List (List Bool) = λ x. marked (marked rows x.«then» x.first) x.first x.«then» in
    let one : c.with.result ≡ set (get_or rows a.«then» []) a.first true =
    c.with.ensures.value ∙ ap (λ r. set r a.first true)
    (sym c.index-rows-pair.is ∙ get_or_read rows a.«then» c.index-rows-pair.result
    (omega (arith, names, c.loop-pair.invariant.sets.many)) c.index-rows-pair.is []) in
    let half : set rows a.«then» c.with.result ≡ marked rows a.«then» a.first = ap (set rows a.«then») one in
    let two : c.with-in-loop-pair.result ≡ set (get_or (set rows a.«then» c.with.result) a.first []) a.«then» true =
    c.with-in-loop-pair.ensures.value
    ∙ ap (λ r. set r a.«then» true) (sym c.index-rows-pair-in-loop-pair.is
    ∙ get_or_read (set rows a.«then» c.with.result) a.first c.index-rows-pair-in-loop-pair.result
    (omega (arith, names, c.loop-pair.invariant.sets.many, length-set rows a.«then» c.with.result))
    c.index-rows-pair-in-loop-pair.is []) in
    let P : List Prec → Type 0 = λ xs. ArePaired n xs (new a) in
    let R : List (List Bool) → Type 0 = λ rs. ArePaired n (take (c.loop-pair.pair-index + 1) c.args.pairs.now)
    (marked rs a.first a.«then») in
    let S : List Bool → Type 0 = λ r. ArePaired n (take (c.loop-pair.pair-index + 1) c.args.pairs.now)
    (set (set rows a.«then» c.with.result) a.first r) in
    subst S (sym two) (subst R (sym half) (subst P (sym (take_more c.args.pairs.now c.loop-pair.pair-index
    (record { first = 0; «then» = 0 }) c.loop-pair-test.true))
    (one_pair n (take c.loop-pair.pair-index c.args.pairs.now) rows a c.requires.few c.loop-pair.invariant names.0
    names.1)))
