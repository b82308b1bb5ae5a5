use Rattle.std.proofs.Common.{◌≡◌, true, refl}
use Rattle.std.proofs.lemmas.Bool.{true≢false}
use Rattle.line_rules.specs.Order.{IsNext}
use Rattle.line_rules.specs.Sides.{fills}
use Rattle.line_rules.specs.declared.types.Side.{Side}
use Rattle.line_rules.specs.declared.types.Side.TheVariants.{Front}
use Rattle.line_rules.proofs.SideFacts.{each_side}
use Rattle.line_rules.specs.Ends.{IsEnd}
use Rattle.check_loads.specs.Standing.{end_of}
use Rattle.check_loads.specs.declared.loads.Walk.{Walk}
use Rattle.check_loads.proofs.StepFacts.{start, goes_on, ends}
use Rattle.check_loads.proofs.loads.Walk.step.Goals as goal

pub advance-requires-clause-scan : goal.advance-requires-clause-scan
advance-requires-clause-scan c =
    start c.args.inst.now c.tasks-tasks.ensures.line c.tasks-tasks.ensures.ranked c.args.q.now.cycle c.args.q.now.mode
    c.args.q.now.set c.args.self.now c.requires.walk c.load-last.result c.load-last.ensures

pub returns-then-advance-clause-next : goal.returns-then-advance-clause-next
returns-then-advance-clause-next c = λ e.
    goes_on c.args.inst.now c.tasks-tasks.ensures.line c.tasks-tasks.ensures.ranked c.args.q.now.cycle c.args.q.now.mode
    c.args.q.now.set c.args.self.now c.requires.walk c.load-last.result c.load-last.ensures
    (record { front = c.args.self.now.front.tasks; back = c.advance.new.end.tasks }) (c.if-advance.ensures.joined refl)

pub returns-then-advance-clause-walk : goal.returns-then-advance-clause-walk
returns-then-advance-clause-walk c = λ e.
    let new : Walk = record {
      given = true;
      sum = c.advance.new.sum;
      front = c.args.self.now.front;
      back = c.advance.new.end;
    } in
    let n : IsNext c.args.inst.now c.args.q.now.cycle c.args.q.now.mode c.args.q.now.set c.load-last.result
    (record { front = c.args.self.now.front.tasks; back = c.advance.new.end.tasks }) =
    c.if-advance.ensures.joined refl in
    record {
      load = λ g. n.load;
      nothing = λ g. absurd (true≢false g);
      sum = c.advance.ensures.sum;
      kept = each_side (λ (s : Side). fills c.args.q.now.mode s ≡ true
          → IsEnd c.args.inst.now s c.args.q.now.set (end_of s new).tasks (end_of s new).free (end_of s new).places)
          (c.requires.walk.kept Front) c.advance.ensures.kept;
    }

pub returns-then-advance-2-clause-next : goal.returns-then-advance-2-clause-next
returns-then-advance-2-clause-next c = λ e.
    goes_on c.args.inst.now c.tasks-tasks.ensures.line c.tasks-tasks.ensures.ranked c.args.q.now.cycle c.args.q.now.mode
    c.args.q.now.set c.args.self.now c.requires.walk c.load-last.result c.load-last.ensures
    (record { front = c.advance-2.new.end.tasks; back = c.advance.new.end.tasks }) (c.if-advance-2.ensures.joined refl)

pub returns-then-advance-2-clause-walk : goal.returns-then-advance-2-clause-walk
returns-then-advance-2-clause-walk c = λ e.
    let new : Walk = record {
      given = true;
      sum = c.advance-2.new.sum;
      front = c.advance-2.new.end;
      back = c.advance.new.end;
    } in
    let n : IsNext c.args.inst.now c.args.q.now.cycle c.args.q.now.mode c.args.q.now.set c.load-last.result
    (record { front = c.advance-2.new.end.tasks; back = c.advance.new.end.tasks }) =
    c.if-advance-2.ensures.joined refl in
    record {
      load = λ g. n.load;
      nothing = λ g. absurd (true≢false g);
      sum = c.advance-2.ensures.sum;
      kept = each_side (λ (s : Side). fills c.args.q.now.mode s ≡ true
          → IsEnd c.args.inst.now s c.args.q.now.set (end_of s new).tasks (end_of s new).free (end_of s new).places)
          c.advance-2.ensures.kept c.advance.ensures.kept;
    }

pub returns-clause-none : goal.returns-clause-none
returns-clause-none c = λ e.
    ends c.args.inst.now c.tasks-tasks.ensures.line c.tasks-tasks.ensures.ranked c.args.q.now.cycle c.args.q.now.mode
    c.args.q.now.set c.args.self.now c.requires.walk c.load-last.result c.load-last.ensures
    (record { front = c.advance-2.new.end.tasks; back = c.advance.new.end.tasks }) (c.if-advance-2.ensures.passed refl)
