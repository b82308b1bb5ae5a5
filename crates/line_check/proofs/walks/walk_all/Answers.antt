use Rattle.std.proofs.Common.{◌+◌, ◌≤◌, Option, take, refl, sym, subst, arith}
use Rattle.line_rules.specs.Loads.{IsLoad}
use Rattle.line_rules.specs.Entries.{IsOpen}
use Rattle.line_rules.specs.declared.types.Load.{Load}
use Rattle.line_check.specs.Walks.{IsUncovered, CountsTo}
use Rattle.check_loads.specs.Standing.{stand, last_of}
use Rattle.check_loads.proofs.StepFacts.{last_given, none_given}
use Rattle.line_check.proofs.WalkFacts.{IsWalking, walk_starts, walk_takes, walk_fails, walk_past, walk_told}
use Rattle.line_check.proofs.walks.walk_all.Goals as goal

pub loads-init : goal.loads-init
loads-init c =
    let W : Option Load → Type 0 = λ o. IsWalking c.args.q.now.kind c.args.inst.now c.args.q.now.cycle c.args.q.now.mode
    c.args.q.now.set c.args.q.now.most (take c.args.k c.args.entries.now) c.args.cites.now o 0 0 in
    record {
      is = c.begin-walk.ensures.walk;
      walking = subst W
          (sym (none_given c.begin-walk.result c.begin-walk.ensures.given))
          (walk_starts c.args.q.now.kind c.args.inst.now c.tasks-tasks.ensures.ranked c.args.q.now.cycle
          c.args.q.now.mode
          c.args.q.now.set c.args.q.now.most (take c.args.k c.args.entries.now) c.args.cites.now);
      less = omega arith;
      chained = tt;
    }

pub returns-then-not-step : goal.returns-then-not-step
returns-then-not-step c = walk_told c.args.q.now.kind c.args.inst.now c.tasks-tasks.ensures.ranked c.args.q.now.cycle
    c.args.q.now.mode c.args.q.now.set c.args.q.now.most (take c.args.k c.args.entries.now) c.args.cites.now
    (last_of c.loads.walk) c.loads.units c.loads.taken c.loads.invariant.walking
    (c.step.ensures.none c.if-not-step.true) c.args.steps c.ended.result c.loads.invariant.less c.ended.ensures

pub returns-then-units-steps : goal.returns-then-units-steps
returns-then-units-steps c = walk_past c.args.q.now.kind c.args.inst.now c.tasks-tasks.ensures.ranked c.args.q.now.cycle
    c.args.q.now.mode c.args.q.now.set c.args.q.now.most (take c.args.k c.args.entries.now) c.args.cites.now
    (last_of c.loads.walk) c.loads.units c.loads.taken c.loads.invariant.walking (stand c.step.new.self)
    (c.step.ensures.next c.if-not-step.false)
    (IsLoad c.args.inst.now c.args.q.now.cycle c.args.q.now.mode c.args.q.now.set)
    (IsOpen c.args.q.now.kind c.args.inst.now c.args.q.now.cycle c.args.q.now.mode c.args.q.now.set
    c.args.q.now.most) (λ k o. o) (λ k o p. o) (λ k g. g) (λ k g u. g)
    c.args.steps c.loads.invariant.less c.if-units-steps.true

pub returns-in-None : goal.returns-in-None
returns-in-None c =
    let W : Load → Type 0 = IsLoad c.args.inst.now c.args.q.now.cycle c.args.q.now.mode c.args.q.now.set in
    let P : Load → Type 0 = IsOpen c.args.q.now.kind c.args.inst.now c.args.q.now.cycle c.args.q.now.mode
    c.args.q.now.set c.args.q.now.most in
    let T : Load → Type 0 = λ z. IsUncovered c.args.inst.now W P (take c.args.k c.args.entries.now) c.args.q.now.set
    c.args.q.now.most c.args.q.now.cycle c.args.cites.now z
    × CountsTo c.args.inst.now W P (take c.args.k c.args.entries.now) c.args.q.now.set c.args.q.now.most
    c.args.q.now.cycle c.args.cites.now z (c.loads.units + 1) × (c.loads.units + 1 ≤ c.args.steps) in
    subst T (sym c.load.ensures) (walk_fails c.args.q.now.kind c.args.inst.now c.tasks-tasks.ensures.ranked
    c.args.q.now.cycle c.args.q.now.mode c.args.q.now.set c.args.q.now.most (take c.args.k c.args.entries.now)
    c.args.cites.now (last_of c.loads.walk) c.loads.units c.loads.taken c.loads.invariant.walking
    (stand c.step.new.self) (c.step.ensures.next c.if-not-step.false)
    (IsLoad c.args.inst.now c.args.q.now.cycle c.args.q.now.mode c.args.q.now.set)
    (IsOpen c.args.q.now.kind c.args.inst.now c.args.q.now.cycle c.args.q.now.mode c.args.q.now.set
    c.args.q.now.most) (λ k o. o) (λ k o p. o) (λ k g. g) (λ k g u. g)
    c.args.steps c.if-units-steps.false (c.in-None.ensures.open refl) (c.in-None.ensures.lacking refl))

pub loads-preserved : goal.loads-preserved
loads-preserved c =
    let W : Option Load → Type 0 = λ o. IsWalking c.args.q.now.kind c.args.inst.now c.args.q.now.cycle c.args.q.now.mode
    c.args.q.now.set c.args.q.now.most (take c.args.k c.args.entries.now) c.args.cites.now o (c.loads.units + 1)
    c.in-Some.more in
    record {
      is = c.step.ensures.walk c.if-not-step.false;
      walking = subst W (sym (last_given c.step.new.self (c.step.ensures.given c.if-not-step.false)))
          (walk_takes c.args.q.now.kind c.args.inst.now c.tasks-tasks.ensures.ranked c.args.q.now.cycle
          c.args.q.now.mode c.args.q.now.set c.args.q.now.most (take c.args.k c.args.entries.now) c.args.cites.now
          (last_of c.loads.walk) c.loads.units c.loads.taken c.loads.invariant.walking (stand c.step.new.self)
          (c.step.ensures.next c.if-not-step.false)
          c.in-Some.more c.in-Some.ensures.some);
      less = omega (arith, c.if-units-steps.false);
      chained = c.taken_with.ensures.chained;
    }
