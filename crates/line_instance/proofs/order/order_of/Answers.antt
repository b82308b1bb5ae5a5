use Rattle.std.proofs.Common.{◌≡◌, ◌+◌, ℕ, List, Bool, false, true, length, set, replicate, sym, subst, arith, refl}
use Rattle.line_instance.proofs.Orders.{IsCounted, none_ordered, one_counted, is_stuck, is_whole}
use Rattle.line_instance.proofs.order.order_of.Goals as goal

pub loop-rank-init : goal.loop-rank-init
loop-rank-init c =
    let P : List Bool → Type 0 = λ p. IsCounted c.args.direct.now p c.new-order.result.items 0 in
    let Q : List ℕ → Type 0 = λ o. IsCounted c.args.direct.now (replicate 1024 false) o 0 in
    subst P (sym c.empty-placed.ensures.value) (subst Q (sym c.new-order.ensures.items)
    (none_ordered c.args.direct.now))

pub returns-in-None : goal.returns-in-None
returns-in-None c = is_stuck c.args.direct.now c.loop-rank.placed c.loop-rank.order.items c.loop-rank._rank
    c.loop-rank-test.true c.loop-rank.invariant (c.in-None.ensures.none refl)

pub loop-rank-preserved : goal.loop-rank-preserved
loop-rank-preserved c =
    let P : List Bool → Type 0 = λ p. IsCounted c.args.direct.now p c.push.new.self.items (c.loop-rank._rank + 1) in
    let Q : List ℕ → Type 0 = λ o. IsCounted c.args.direct.now (set c.loop-rank.placed c.in-Some.task true) o
    (c.loop-rank._rank + 1) in
    subst P (sym c.with-placed.ensures.value) (subst Q (sym c.in_ok-push-in-Some.ensures.items)
    (one_counted c.args.direct.now c.loop-rank.placed c.loop-rank.order.items c.in-Some.task c.loop-rank._rank
    c.requires.many c.loop-rank.invariant c.in-Some.ensures.some))

pub returns : goal.returns
returns c =
    let e : c.loop-rank._rank ≡ length c.args.direct.now = omega arith in
    let P : ℕ → Type 0 = λ k. IsCounted c.args.direct.now c.loop-rank.placed c.loop-rank.order.items k in
    is_whole c.args.direct.now c.loop-rank.placed c.loop-rank.order.items c.requires.many
    (subst P e c.loop-rank.invariant)
