use Rattle.std.proofs.Common.{◌+◌, ◌∙◌, sym, arith}
use Rattle.line_instance.specs.Line.{tasks}
use Rattle.line_rules.specs.declared.types.Side.TheVariants.{Back}
use Rattle.line_rules.specs.declared.types.Load.{Load}
use Rattle.line_rules.specs.inner.Scan.{Scan}
use Rattle.line_rules.proofs.ScanFacts.{rescan, skips}
use Rattle.station_load.specs.inner.Steps.{pair}
use Rattle.station_load.proofs.steps.goes_on.Goals as goal

-- a back that isn't filled has nothing to go over
passed : (c : goal.After-front_goes_on) (base : Load) → Scan c.args.inst.now c.args.cycle c.args.mode c.args.set.now base
    (pair c.args.front.now c.args.back.now) (tasks c.args.inst.now + tasks c.args.inst.now)
    → Scan c.args.inst.now c.args.cycle c.args.mode c.args.set.now base (pair c.args.front.now c.args.back.now)
    (tasks c.args.inst.now)
passed c base scan =
    let n = tasks c.args.inst.now in
    rescan c.args.inst.now c.args.cycle c.args.mode c.args.set.now base (pair c.args.front.now c.args.back.now)
    (n + 0) n (omega arith) (skips c.args.inst.now c.args.cycle c.args.mode c.args.set.now Back base
    (pair c.args.front.now c.args.back.now) n (omega arith) (sym c.fills.ensures ∙ c.if-fills.false) scan)

pub returns-clause-next : goal.returns-clause-next
returns-clause-next c = λ e base scan. c.front_goes_on.ensures.next e base (passed c base scan)

pub returns-clause-over : goal.returns-clause-over
returns-clause-over c = λ e.
    let over = c.front_goes_on.ensures.over e in
    record {
      none = λ base scan. over.none base (passed c base scan);
      same_front = over.same_front;
      same_back = over.same_back;
    }
