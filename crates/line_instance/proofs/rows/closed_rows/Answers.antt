use Rattle.std.proofs.Common.{◌≡◌, arith, ℕ, List, Bool, [], length, ◌<◌, subst, get_or}
use Rattle.std.proofs.lemmas.List.{get_or_read}
use Rattle.line_instance.specs.inner.Inside.{IsJoined}
use Rattle.line_instance.proofs.JoinedRows.{AreFilled, one_filled, all_filled}
use Rattle.line_instance.proofs.rows.closed_rows.Goals as goal

pub loop-k-preserved : goal.loop-k-preserved
loop-k-preserved c =
    let task : ℕ = get_or c.args.order.now c.loop-k.k 0 in
    let small : task < length c.args.direct.now = c.requires.order.order_is.small c.loop-k.k c.loop-k-test.true in
    let row : c.index-direct-task.result ≡ get_or c.args.direct.now task [] =
    get_or_read c.args.direct.now task c.index-direct-task.result small c.index-direct-task.is [] in
    let P : List Bool → Type 0 = λ d. IsJoined d c.loop-k.rows.items c.joined_row.result in
    let Q : List (List Bool) → Type 0 = λ rs. IsJoined c.index-direct-task.result rs c.joined_row.result in
    one_filled c.args.direct.now c.args.order.now c.loop-k.rows.items c.loop-k.k c.joined_row.result c.requires.order
    c.loop-k-test.true (subst P row (subst Q c.deref.ensures.value c.joined_row.ensures)) c.loop-k.invariant

pub returns : goal.returns
returns c =
    let e : c.loop-k.k ≡ length c.args.order.now = omega arith in
    let P : ℕ → Type 0 = λ k. AreFilled c.args.direct.now c.args.order.now c.loop-k.rows.items k in
    all_filled c.args.direct.now c.args.order.now c.loop-k.rows.items c.requires.order (subst P e c.loop-k.invariant)
