use Rattle.std.proofs.Common.{◌≡◌, ◌∙◌, ap, sym, arith, subst, List, Bool, true, set, take, [], slice_index_or, ◌+◌}
use Rattle.std.proofs.lemmas.List.{take_more, get_or_read}
use Rattle.line_instance.specs.declared.arcs.Prec.{Prec}
use Rattle.line_instance.specs.inner.Inside.{AreDirect}
use Rattle.line_instance.proofs.JoinedRows.{empty_ones, no_arcs, one_arc}
use Rattle.line_instance.proofs.rows.direct_rows.Goals as goal

pub loop-arc-init : goal.loop-arc-init
loop-arc-init c = no_arcs c.args.n c.in_ok-rows.rows.items (empty_ones c.args.n c.in_ok-rows.rows.items
    c.in_ok-rows.ensures.many c.in_ok-rows.ensures.empty)

pub loop-arc-preserved : goal.loop-arc-preserved
loop-arc-preserved c =
    let a : Prec = slice_index_or c.args.arcs.now c.loop-arc.arc-index (record { first = 0; «then» = 0 }) in
    let names = c.requires.arcs c.loop-arc.arc-index c.loop-arc-test.true in
    let P : List Prec → Type 0 = λ xs. AreDirect c.args.n xs
    (set c.loop-arc.rows.items a.«then» (set (slice_index_or c.loop-arc.rows.items a.«then» []) a.first true)) in
    let R : List Bool → Type 0 = λ row. AreDirect c.args.n (take (c.loop-arc.arc-index + 1) c.args.arcs.now)
    (set c.loop-arc.rows.items a.«then» row) in
    let row : c.with.result ≡ set (slice_index_or c.loop-arc.rows.items a.«then» []) a.first true =
    c.with.ensures.value ∙ ap (λ r. set r a.first true)
    (get_or_read c.loop-arc.rows.items a.«then» c.index_mut-row.result.now
    (omega (arith, names, c.loop-arc.invariant.sets.many)) c.index_mut-row.ensures.value []) in
    subst R (sym row) (subst P (sym (take_more c.args.arcs.now c.loop-arc.arc-index (record { first = 0; «then» = 0 })
    c.loop-arc-test.true))
    (one_arc c.args.n (take c.loop-arc.arc-index c.args.arcs.now) c.loop-arc.rows.items a c.requires.few
    c.loop-arc.invariant names.0 names.1))
