use Rattle.std.proofs.Common.{ℕ, List, refl, subst, sym, ap, ◌∙◌}
use Rattle.std.proofs.lemmas.List.{take_all}
use Rattle.sequence_rules.specs.States.{IsSequenceOf}
use Rattle.sequence_search.specs.Outcomes.{model_order}
use Rattle.sequence_search.proofs.OrderFacts.{order_more, order_whole, ordered_more}
use Rattle.sequence_search.proofs.ordering.model_order.Goals as goal

pub loop-m-preserved : goal.loop-m-preserved
loop-m-preserved c =
    let own = order_more c.args.demands.now c.loop-m.sequence.items _ c.loop-m.m _ refl c.in_ok-push_units.ensures
    c.loop-m.invariant.before c.loop-m.invariant.after in
    record {
      before = own.0;
      after = own.1;
      order = ordered_more c.loop-m.m c.args.demands.now c.loop-m.sequence.items _ c.loop-m-test.true
          c.loop-m.invariant.order c.in_ok-push_units.ensures;
    }

pub returns-clause-is : goal.returns-clause-is
returns-clause-is c =
    let P : List ℕ → Type 0 = λ xs. IsSequenceOf c.args.demands.now xs in
    subst P (sym c.from_vec.ensures) (order_whole c.args.demands.now c.loop-m.sequence.items c.loop-m.m
    c.loop-m-test.false c.loop-m.invariant.before c.loop-m.invariant.after)

pub returns-clause-order : goal.returns-clause-order
returns-clause-order c =
    c.from_vec.ensures ∙ c.loop-m.invariant.order
    ∙ ap (λ (xs : List ℕ). model_order xs) (take_all c.loop-m.m c.args.demands.now c.loop-m-test.false)
