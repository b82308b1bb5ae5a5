use Rattle.std.proofs.Common.{◌≡◌, ◌∙◌, ◌+◌, ◌≤◌, Some, List, Option, true, take, refl, sym, subst, arith}
use Rattle.std.proofs.lemmas.Bool.{false≢true}
use Rattle.std.proofs.lemmas.List.{take_all}
use Rattle.line_rules.specs.Loads.{IsLoad}
use Rattle.line_rules.specs.Order.{After, UpTo}
use Rattle.line_rules.specs.Entries.{IsOpen}
use Rattle.line_rules.specs.declared.types.Entry.{Entry}
use Rattle.line_rules.specs.declared.types.Load.{Load}
use Rattle.line_check.specs.Walks.{IsUncovered, CountsTo}
use Rattle.line_check.specs.Reaches.{IsMatched}
use Rattle.line_check.specs.inner.Steps.{IsLacking, Takes}
use Rattle.check_loads.specs.Standing.{stand, last_of}
use Rattle.check_loads.proofs.StepFacts.{last_given, none_given}
use Rattle.line_check.proofs.WalkFacts.{IsWalking, walk_starts, walk_takes}
use Rattle.line_check.proofs.PartWalks.{reach_past, reach_fails, reach_before, reach_end, goes_on}
use Rattle.line_check.proofs.walks.walk_to.Goals as goal
use Rattle.line_check.proofs.walks.walk_to.Goals.{else-ends-via-then-ends+else-not-deepest, else-ends-via-else-ends}

pub loads-init : goal.loads-init
loads-init c =
    let W : Option Load → Type 0 = λ o. IsWalking c.args.q.now.kind c.args.inst.now c.args.q.now.cycle c.args.q.now.mode
    c.args.q.now.set c.args.q.now.most c.args.entries.now c.args.cites.now o 0 0 in
    let A : Option Load → Type 0 = λ o. After c.args.inst.now o c.args.end.now in
    let none = none_given c.begin-walk.result c.begin-walk.ensures.given in
    record {
      is = c.begin-walk.ensures.walk;
      walking = subst W (sym none)
          (walk_starts c.args.q.now.kind c.args.inst.now c.tasks-tasks.ensures.ranked c.args.q.now.cycle
          c.args.q.now.mode
          c.args.q.now.set c.args.q.now.most c.args.entries.now c.args.cites.now);
      ahead = subst A (sym none) tt;
      less = omega arith;
      chained = tt;
    }

pub returns-then-not-step : goal.returns-then-not-step
returns-then-not-step c = absurd (c.step.ensures.none c.if-not-step.true c.args.end.now c.requires.end
    c.loads.invariant.ahead)

pub returns-then-steps-units : goal.returns-then-steps-units
returns-then-steps-units c = reach_past c.args.q.now.kind c.args.inst.now c.tasks-tasks.ensures.ranked
    c.args.q.now.cycle c.args.q.now.mode c.args.q.now.set c.args.q.now.most c.args.entries.now c.args.cites.now
    c.args.end.now c.args.deepest c.requires.end (last_of c.loads.walk) c.loads.units c.loads.taken
    c.loads.invariant.walking c.loads.invariant.ahead (stand c.step.new.self) (c.step.ensures.next c.if-not-step.false)
    c.args.steps c.loads.invariant.less c.if-steps-units.true

pub returns-then-not-deepest : goal.returns-then-not-deepest
returns-then-not-deepest c = reach_before c.args.q.now.kind c.args.inst.now c.tasks-tasks.ensures.ranked
    c.args.q.now.cycle c.args.q.now.mode c.args.q.now.set c.args.q.now.most c.args.entries.now c.args.cites.now
    c.args.end.now c.args.deepest c.requires.end (last_of c.loads.walk) c.loads.units c.loads.taken
    c.loads.invariant.walking c.loads.invariant.ahead (stand c.step.new.self) (c.step.ensures.next c.if-not-step.false)
    c.args.steps c.ended.result c.if-steps-units.false (c.is_at-ends.ensures.0 c.if-ends.true) c.if-not-deepest.true
    c.ended.ensures

pub returns-in-None : goal.returns-in-None
returns-in-None c =
    let q : take c.len.result c.args.entries.now ≡ c.args.entries.now =
    take_all c.len.result c.args.entries.now (omega (arith, c.len.ensures)) in
    let L : List Entry → Type 0 = λ z. IsLacking c.args.q.now.kind c.args.inst.now c.args.q.now.cycle c.args.q.now.mode
    c.args.q.now.set c.args.q.now.most z c.args.cites.now (stand c.step.new.self) c.loads.taken in
    let N : Load → Type 0 = λ k. IsLoad c.args.inst.now c.args.q.now.cycle c.args.q.now.mode c.args.q.now.set k
    × UpTo c.args.inst.now (Some c.args.end.now) k in
    let P : Load → Type 0 = λ k. IsOpen c.args.q.now.kind c.args.inst.now c.args.q.now.cycle c.args.q.now.mode
    c.args.q.now.set c.args.q.now.most k × IsMatched c.args.deepest c.args.inst.now (Some c.args.end.now) k in
    let U : Load → Type 0 = λ z. IsUncovered c.args.inst.now N P c.args.entries.now c.args.q.now.set c.args.q.now.most
    c.args.q.now.cycle c.args.cites.now z
    × CountsTo c.args.inst.now N P c.args.entries.now c.args.q.now.set c.args.q.now.most c.args.q.now.cycle
    c.args.cites.now z (c.loads.units + 1) × (c.loads.units + 1 ≤ c.args.steps) in
    subst U (sym c.load.ensures) (reach_fails c.args.q.now.kind c.args.inst.now c.tasks-tasks.ensures.ranked
    c.args.q.now.cycle c.args.q.now.mode c.args.q.now.set c.args.q.now.most c.args.entries.now c.args.cites.now
    c.args.end.now c.args.deepest c.requires.end (last_of c.loads.walk) c.loads.units c.loads.taken
    c.loads.invariant.walking c.loads.invariant.ahead (stand c.step.new.self)
    (c.step.ensures.next c.if-not-step.false)
    c.args.steps c.if-steps-units.false (c.in-None.ensures.open refl)
    (λ d. elim c.else-ends.branch [
      | else-ends-via-then-ends+else-not-deepest w ↦ absurd (false≢true (sym d ∙ w.if-not-deepest.false))
      | else-ends-via-else-ends w ↦ λ e. false≢true (sym w.if-ends.false ∙ c.is_at-ends.ensures.1 e)
    ])
    (subst L q (c.in-None.ensures.lacking refl)))

pub returns-then-ends-2 : goal.returns-then-ends-2
returns-then-ends-2 c =
    let q : take c.len.result c.args.entries.now ≡ c.args.entries.now =
    take_all c.len.result c.args.entries.now (omega (arith, c.len.ensures)) in
    let T : List Entry → Type 0 = λ z. Takes c.args.q.now.kind c.args.inst.now c.args.q.now.cycle c.args.q.now.mode
    c.args.q.now.set c.args.q.now.most z c.args.cites.now (stand c.step.new.self) c.loads.taken c.in-Some.more in
    let deep : c.args.deepest ≡ true = elim c.else-ends.branch [
      | else-ends-via-then-ends+else-not-deepest w ↦ w.if-not-deepest.false
      | else-ends-via-else-ends w ↦ absurd (false≢true (sym w.if-ends.false ∙ c.if-ends-2.true))
    ] in
    reach_end c.args.q.now.kind c.args.inst.now c.tasks-tasks.ensures.ranked c.args.q.now.cycle c.args.q.now.mode
    c.args.q.now.set c.args.q.now.most c.args.entries.now c.args.cites.now c.args.end.now c.args.deepest
    c.requires.end (last_of c.loads.walk) c.loads.units c.loads.taken c.loads.invariant.walking
    c.loads.invariant.ahead (stand c.step.new.self) (c.step.ensures.next c.if-not-step.false)
    c.args.steps c.in-Some.more c.ended-then-ends-2.result c.if-steps-units.false
    (c.is_at-ends.ensures.0 c.if-ends-2.true) deep (subst T q c.in-Some.ensures.some) c.ended-then-ends-2.ensures

pub loads-preserved : goal.loads-preserved
loads-preserved c =
    let q : take c.len.result c.args.entries.now ≡ c.args.entries.now =
    take_all c.len.result c.args.entries.now (omega (arith, c.len.ensures)) in
    let T : List Entry → Type 0 = λ z. Takes c.args.q.now.kind c.args.inst.now c.args.q.now.cycle c.args.q.now.mode
    c.args.q.now.set c.args.q.now.most z c.args.cites.now (stand c.step.new.self) c.loads.taken c.in-Some.more in
    let W : Option Load → Type 0 = λ o. IsWalking c.args.q.now.kind c.args.inst.now c.args.q.now.cycle c.args.q.now.mode
    c.args.q.now.set c.args.q.now.most c.args.entries.now c.args.cites.now o (c.loads.units + 1) c.in-Some.more in
    let A : Option Load → Type 0 = λ o. After c.args.inst.now o c.args.end.now in
    let given = last_given c.step.new.self (c.step.ensures.given c.if-not-step.false) in
    record {
      is = c.step.ensures.walk c.if-not-step.false;
      walking = subst W (sym given) (walk_takes c.args.q.now.kind c.args.inst.now c.tasks-tasks.ensures.ranked
          c.args.q.now.cycle c.args.q.now.mode c.args.q.now.set c.args.q.now.most c.args.entries.now c.args.cites.now
          (last_of c.loads.walk) c.loads.units c.loads.taken c.loads.invariant.walking (stand c.step.new.self)
          (c.step.ensures.next c.if-not-step.false) c.in-Some.more (subst T q c.in-Some.ensures.some));
      ahead = subst A (sym given) (goes_on c.args.q.now.kind c.args.inst.now c.tasks-tasks.ensures.ranked
          c.args.q.now.cycle c.args.q.now.mode c.args.q.now.set c.args.q.now.most c.args.entries.now c.args.cites.now
          c.args.end.now c.args.deepest c.requires.end (last_of c.loads.walk) c.loads.units c.loads.taken
          c.loads.invariant.walking c.loads.invariant.ahead (stand c.step.new.self)
          (c.step.ensures.next c.if-not-step.false) (λ e. false≢true
          (sym c.if-ends-2.false ∙ c.is_at-ends.ensures.1 e)));
      less = omega (arith, c.if-steps-units.false);
      chained = c.taken_with.ensures.chained;
    }
