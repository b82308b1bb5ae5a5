use Rattle.std.proofs.Common.{arith, ℕ, List, Bool, length, sym, subst}
use Rattle.line_instance.specs.inner.Inside.{AreRows, AreJoined, AreTurned, AreRanksOf, ArePartners, IsWhole}
use Rattle.line_instance.specs.inner.Inside.{IsPermutation, LeadsIn, of_rows}
use Rattle.line_instance.specs.Walks.{IsRingOf}
use Rattle.line_instance.specs.declared.partners.Kept.{Kept}
use Rattle.line_instance.proofs.JoinedRows.{empty_ones}
use Rattle.line_instance.proofs.MarkedRows.{permutation}
use Rattle.line_instance.proofs.InstanceFacts.{sound, instance_is, arcs_ring, before_rows}
use Rattle.line_instance.proofs.making.made_of.Goals as goal

pub returns-in-Stuck : goal.returns-in-Stuck
returns-in-Stuck c =
    let R : List (List Bool) → Type 0 = λ d. IsRingOf (LeadsIn d) c.in_ok-ring_of-in-Stuck.field-0 in (
      c.requires.times,
      c.requires.arcs,
      arcs_ring c.len-n.result c.args.arcs.now c.in_ok-direct.direct.items
          c.in_ok-ring_of-in-Stuck.field-0 c.in_ok-direct.ensures
          (subst R c.deref-in-Stuck.ensures.value c.in_ok-ring_of-in-Stuck.ensures),
    )

pub turned_rows-requires-clause-rows : goal.turned_rows-requires-clause-rows
turned_rows-requires-clause-rows c =
    let o = rw c.in-Whole.is at c.in_ok-order.ensures in
    let O : List (List Bool) → Type 0 = λ x. IsWhole x c.in-Whole.order.items in
    let J : List (List Bool) → Type 0 = λ x. AreJoined x c.in_ok-before.before.items in
    let R : List (List Bool) → Type 0 = λ x. AreRows (length x) x in
    subst R (sym c.deref-4.ensures.value)
    (before_rows c.len-n.result c.args.arcs.now c.in_ok-direct.direct.items c.in-Whole.order.items
    c.in_ok-before.before.items c.in_ok-direct.ensures (subst O c.deref.ensures.value o)
    (subst J c.deref-2.ensures.value c.in_ok-before.ensures))

pub ranks_of-requires-clause-order : goal.ranks_of-requires-clause-order
ranks_of-requires-clause-order c =
    let o = rw c.in-Whole.is at c.in_ok-order.ensures in
    let P : List ℕ → Type 0 = λ x. IsPermutation x in
    subst P (sym c.deref-5.ensures.value) (permutation c.deref.result.now c.in-Whole.order.items o)

pub invariant_of-result : goal.invariant_of-result
invariant_of-result c =
    let o = rw c.in-Whole.is at c.in_ok-order.ensures in
    let before : List (List Bool) = c.in_ok-before.before.items in
    let after : List (List Bool) = c.in_ok-after.after.items in
    let apart : List (List Bool) = c.in_ok-apart.apart.items in
    let ranks : List ℕ = c.in_ok-ranks.ranks.items in
    let partners : List Kept = c.in_ok-partners.partners.items in
    let O : List (List Bool) → Type 0 = λ x. IsWhole x c.in-Whole.order.items in
    let J : List (List Bool) → Type 0 = λ x. AreJoined x before in
    let T : List (List Bool) → Type 0 = λ x. AreTurned x after in
    let R : List ℕ → Type 0 = λ x. AreRanksOf x ranks in
    let A : List ℕ → Type 0 = λ x. ArePartners (of_rows x c.deref-7.result.now c.deref-9.result.now) partners in
    let B : List (List Bool) → Type 0 = λ x. ArePartners (of_rows c.args.times.items x c.deref-9.result.now) partners in
    let C : List (List Bool) → Type 0 = λ x. ArePartners (of_rows c.args.times.items before x) partners in
    sound c.len-n.result c.args.arcs.now c.in_ok-direct.direct.items c.in-Whole.order.items before
    c.in_ok-direct.ensures (subst O c.deref.ensures.value o)
    (subst J c.deref-2.ensures.value c.in_ok-before.ensures)
    c.args.times.items apart (omega arith) c.requires.times
    (empty_ones c.len-n.result apart c.in_ok-apart.ensures.many c.in_ok-apart.ensures.empty) after ranks partners
    (subst T c.deref-4.ensures.value c.in_ok-after.ensures) (subst R c.deref-5.ensures.value c.in_ok-ranks.ensures)
    (subst C c.deref-9.ensures.value (subst B c.deref-7.ensures.value
    (subst A c.deref-6.ensures.value c.in_ok-partners.ensures)))

pub returns : goal.returns
returns c =
    let o = rw c.in-Whole.is at c.in_ok-order.ensures in
    let O : List (List Bool) → Type 0 = λ x. IsWhole x c.in-Whole.order.items in
    let J : List (List Bool) → Type 0 = λ x. AreJoined x c.in_ok-before.before.items in
    instance_is c.len-n.result c.args.arcs.now c.in_ok-direct.direct.items c.in-Whole.order.items
    c.in_ok-before.before.items c.in_ok-direct.ensures (subst O c.deref.ensures.value o)
    (subst J c.deref-2.ensures.value c.in_ok-before.ensures)
    c.args.times.items c.in_ok-apart.apart.items (omega arith) c.requires.times
    (empty_ones c.len-n.result c.in_ok-apart.apart.items c.in_ok-apart.ensures.many c.in_ok-apart.ensures.empty)
    c.requires.arcs
