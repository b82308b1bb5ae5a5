use Rattle.std.proofs.Common.{◌≡◌, ◌+◌, ap, sym, arith, subst, List, Bool, [], length, get_or, drop}
use Rattle.std.proofs.lemmas.List.{get_or_read, take_at}
use Rattle.line_instance.specs.inner.Inside.{AreMarked}
use Rattle.line_instance.proofs.JoinedRows.{empty_ones}
use Rattle.line_instance.proofs.MarkedRows.{IsTurning, none_turned, one_turned}
use Rattle.line_instance.proofs.rows.turned_rows.Goals as goal

pub loop-j-init : goal.loop-j-init
loop-j-init c = none_turned c.args.rows.now c.in_ok-turned.turned.items
    (empty_ones (length c.args.rows.now) c.in_ok-turned.turned.items c.in_ok-turned.ensures.many
    c.in_ok-turned.ensures.empty)

pub loop-j-preserved : goal.loop-j-preserved
loop-j-preserved c =
    let rows = c.args.rows.now in
    let row : c.index-rows-j.result ≡ get_or rows c.loop-j.j [] =
    get_or_read rows c.loop-j.j c.index-rows-j.result c.loop-j-test.true c.index-rows-j.is [] in
    let P : List (List Bool) → Type 0 = λ t. IsTurning rows t (c.loop-j.j + 1) in
    let M : List Bool → Type 0 = λ r. AreMarked c.loop-j.turned.items r c.loop-j.j c.mark_rows.new.rows in
    let D : List (List Bool) → Type 0 = λ o. AreMarked o c.index-rows-j.result c.loop-j.j c.mark_rows.new.rows in
    subst P (sym (take_at c.mark_rows.new.rows (drop (length c.mark_rows.new.rows) c.loop-j.turned.items)
    c.loop-j.turned.len (omega (arith, c.mark_rows.ensures.many, ap length c.deref_mut.ensures.value))))
    (one_turned rows c.loop-j.turned.items c.mark_rows.new.rows c.loop-j.j
    (subst M row (subst D c.deref_mut.ensures.value c.mark_rows.ensures)) c.loop-j.invariant)
