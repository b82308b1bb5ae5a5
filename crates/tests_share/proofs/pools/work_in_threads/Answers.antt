use Rattle.std.proofs.Common.{◌≡◌, ap, ◌∙◌, subst, arith}
use Rattle.std.specs.Prelude.{slice_index_or}
use Rattle.steal_pool.specs.Hands.{HandView, IsHandOf}
use Rattle.steal_pool.proofs.HandFacts.{hand_at, hands_each}
use Rattle.tests_share.proofs.pools.work_in_threads.Goals as goal

pub for_each_mut-requires-clause-accepts : goal.for_each_mut-requires-clause-accepts
for_each_mut-requires-clause-accepts g c = λ _ _ i p b at. (hand_at c.args.pool.now c.args.hands.now i p.now c.requires
    (omega (arith, b, c.requires.count)) at).1

pub returns-clause-each : goal.returns-clause-each
returns-clause-each g c =
    hands_each c.args.pool.now c.args.hands.now c.for_each_mut.new.s c.requires c.for_each_mut.auto.s
    (λ i d b.
    let r = (c.for_each_mut.ensures i d b).1 in
    subst (λ (z : HandView). IsHandOf c.args.pool.now z × (z.name ≡ (slice_index_or c.args.hands.now i d).name)) r.left
    (r.call.0, r.call.1 ∙ ap (λ (z : HandView). z.name) r.argument_is))
