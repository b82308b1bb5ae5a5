use Rattle.std.proofs.Common.{ℕ, List, refl, subst, sym}
use Rattle.sequence_rules.specs.States.{IsSequenceOf}
use Rattle.sequence_seek.proofs.OrderFacts.{order_more, order_whole}
use Rattle.sequence_seek.proofs.orders.in_order.Goals as goal

pub loop-m-preserved : goal.loop-m-preserved
loop-m-preserved c =
    let own = order_more c.args.demands.now c.loop-m.sequence.items _ c.loop-m.m _ refl c.in_ok-push_units.ensures
    c.loop-m.invariant.before c.loop-m.invariant.after in
    record { before = own.0; after = own.1 }

pub returns : goal.returns
returns c =
    let P : List ℕ → Type 0 = λ xs. IsSequenceOf c.args.demands.now xs in
    subst P (sym c.from_vec.ensures) (order_whole c.args.demands.now c.loop-m.sequence.items c.loop-m.m
    c.loop-m-test.false c.loop-m.invariant.before c.loop-m.invariant.after)
