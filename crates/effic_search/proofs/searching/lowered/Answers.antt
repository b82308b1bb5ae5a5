use Rattle.std.proofs.Common.{◌≡◌, ℕ, ◌+◌, subst, arith}
use Rattle.effic_search.specs.Counted.{most_ended}
use Rattle.effic_search.specs.inner.Going.{IsGoing, IsPaid, product_of}
use Rattle.effic_search.proofs.TryFacts.{settled_last}
use Rattle.effic_search.proofs.searching.lowered.Goals as goal

pub loop-stations-init : goal.loop-stations-init
loop-stations-init g c = (
  c.in_ok-search.ensures.going,
  c.in_ok-search.ensures.paid c.args.plan.now _,
)

pub come_to-requires : goal.come_to-requires
come_to-requires g c =
    let w = c.args.wanted in
    record {
      some = c.requires.some;
      order = c.requires.order;
      few = c.requires.few;
      settled = (
        c.args.plan.now,
        settled_last w.kind c.args.inst.now w.least w.most c.loop-stations.stations w.most c.args.plan.now
            c.in_ok-settled.settled c.in_ok-settled.ensures c.in_default.not-Goes,
      );
    }

pub returns-in_default : goal.returns-in_default
returns-in_default g c =
    let w = c.args.wanted in
    c.come_to.ensures c.args.plan.now (settled_last w.kind c.args.inst.now w.least w.most c.loop-stations.stations
    w.most c.args.plan.now c.in_ok-settled.settled c.in_ok-settled.ensures c.in_default.not-Goes)

pub come_to-requires-2-clause-settled : goal.come_to-requires-2-clause-settled
come_to-requires-2-clause-settled g c =
    let w = c.args.wanted in
    let h = c.loop-stations.search in
    let P : ℕ → Type 0 = λ z. IsGoing w.kind c.args.inst.now w.least w.most z h in
    let Q : ℕ → Type 0 = λ z. IsPaid c.args.plan.now (most_ended c.args.inst.now w.least z (product_of h)) h in
    let end : c.loop-stations.stations ≡ w.most + 1 =
    omega (
      arith,
      c.loop-stations-test.false,
      c.loop-stations.auto.stations,
      c.loop-stations.auto.stations-end,
      c.requires.order,
    ) in
    (c.args.plan.now, (subst P end c.loop-stations.invariant.0, subst Q end c.loop-stations.invariant.1))

pub returns : goal.returns
returns g c =
    let w = c.args.wanted in
    let h = c.loop-stations.search in
    let P : ℕ → Type 0 = λ z. IsGoing w.kind c.args.inst.now w.least w.most z h in
    let Q : ℕ → Type 0 = λ z. IsPaid c.args.plan.now (most_ended c.args.inst.now w.least z (product_of h)) h in
    let end : c.loop-stations.stations ≡ w.most + 1 =
    omega (
      arith,
      c.loop-stations-test.false,
      c.loop-stations.auto.stations,
      c.loop-stations.auto.stations-end,
      c.requires.order,
    ) in
    c.come_to-2.ensures c.args.plan.now
    (subst P end c.loop-stations.invariant.0, subst Q end c.loop-stations.invariant.1)
