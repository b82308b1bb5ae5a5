use Rattle.std.proofs.Common.{ℕ, ◌+◌, ◌≤◌, List, subst, arith}
use Rattle.line_rules.specs.Balance.{all_tasks}
use Rattle.line_rules.specs.Entries.{HasAnswer}
use Rattle.line_rules.specs.declared.types.Entry.{Entry}
use Rattle.effic_search.specs.Counted.{most_ended}
use Rattle.effic_search.specs.inner.Going.{product_of}
use Rattle.effic_search.proofs.GainFacts.{paid_more}
use Rattle.effic_search.proofs.TryFacts.{below_limit, closed_going, left_at}
use Rattle.effic_search.proofs.settling.settle.Goals as goal

pub cycle_below-cycle-requires-clause-small : goal.cycle_below-cycle-requires-clause-small
cycle_below-cycle-requires-clause-small g c =
    let w = c.args.wanted in
    below_limit w.kind c.args.inst.now w.least w.most c.args.stations c.tries.search c.requires.some c.requires.from
    c.tries.invariant.0.lowering

pub returns-then-is_closed : goal.returns-then-is_closed
returns-then-is_closed g c =
    let w = c.args.wanted in
    let H : List Entry → Type 0 =
    λ z. HasAnswer z (all_tasks c.args.inst.now) c.args.stations c.cycle_below-cycle.result in
    let C : ℕ → Type 0 =
    λ z. 1 ≤ z → HasAnswer c.tries.search.book.state.entries (all_tasks c.args.inst.now) c.args.stations z in (
      closed_going w.kind c.args.inst.now w.least w.most c.args.stations c.tries.search c.tries.invariant.0
          (subst C c.cycle_below-cycle.ensures (λ one.
          subst H c.entries.ensures.entries (c.is_closed.ensures.closed c.if-is_closed.true one))),
      paid_more c.args.plan.now (most_ended c.args.inst.now w.least c.args.stations (product_of c.tries.search))
          (most_ended c.args.inst.now w.least (c.args.stations + 1) (product_of c.tries.search)) c.tries.search
          (omega arith) c.tries.invariant.1,
    )

pub returns-then-is_large : goal.returns-then-is_large
returns-then-is_large g c =
    let w = c.args.wanted in
    let L : List Entry → Type 0 =
    λ z. HasAnswer z (all_tasks c.args.inst.now) c.args.stations c.cycle_below-cycle.result → ⊥ in
    let left = left_at w.kind c.args.inst.now w.least w.most c.args.stations c.cycle_below-cycle.result
    c.tries.search c.requires.some c.requires.from c.requires.to c.tries.invariant.0 (c.is_closed.ensures.some
    c.if-is_closed.false) c.cycle_below-cycle.ensures (subst L c.entries.ensures.entries (c.is_closed.ensures.left
    c.if-is_closed.false)) in
    record {
      lowering = c.tries.invariant.0.lowering;
      m = c.args.stations;
      X = c.cycle_below-cycle.result;
      left = left;
      next = record {
        from = left.from;
        to = left.to;
        closed = c.tries.invariant.0.closed;
        some = left.some;
        is = c.cycle_below-cycle.ensures;
        left = left.left;
      };
      large = c.is_large.ensures.large c.if-is_large.true;
      paid = c.tries.invariant.1;
    }

pub try_cycle-requires-clause-due : goal.try_cycle-requires-clause-due
try_cycle-requires-clause-due g c κs within =
    let w = c.args.wanted in
    let L : List Entry → Type 0 =
    λ z. HasAnswer z (all_tasks c.args.inst.now) c.args.stations c.cycle_below-cycle.result → ⊥ in
    record {
      going = c.tries.invariant.0;
      is = c.cycle_below-cycle.ensures;
      left = left_at w.kind c.args.inst.now w.least w.most c.args.stations c.cycle_below-cycle.result c.tries.search
          c.requires.some c.requires.from c.requires.to c.tries.invariant.0 (c.is_closed.ensures.some
          c.if-is_closed.false) c.cycle_below-cycle.ensures (subst L c.entries.ensures.entries
          (c.is_closed.ensures.left c.if-is_closed.false));
      small = c.is_large.ensures.small c.if-is_large.false;
      short = c.is_large.ensures.few c.if-is_large.false;
      paid = c.tries.invariant.1;
    }
