use Rattle.std.proofs.Common.{◌+◌, ◌∙◌, sym, ap, refl, arith}
use Rattle.line_instance.specs.Line.{tasks}
use Rattle.line_rules.specs.declared.types.Side.TheVariants.{Front}
use Rattle.line_rules.proofs.ScanFacts.{none_above, rescan, skips}
use Rattle.station_load.specs.declared.ends.End.{End}
use Rattle.station_load.proofs.steps.back_goes_on.Goals as goal
use Rattle.station_load.proofs.steps.back_goes_on.Goals.{else-fills-via-then-fills+else-front_goes_on}
use Rattle.station_load.proofs.steps.back_goes_on.Goals.{else-fills-via-else-fills}

pub returns-clause-over : goal.returns-clause-over
returns-clause-over c = λ e.
    let n = tasks c.args.inst.now in
    elim c.else-fills.branch [
      | else-fills-via-then-fills+else-front_goes_on w ↦
          let over = w.if-front_goes_on.ensures.over refl in
          record {
            none = λ base scan. over.none base (rescan c.args.inst.now c.args.cycle c.args.mode c.args.set.now base _
                (n + 0) n (omega arith) (c.if-go_over.ensures.passed refl base scan));
            same_front = ap (λ (x : End). x.tasks) w.front-is ∙ over.same_front;
            same_back = refl;
          }
      | else-fills-via-else-fills w ↦ record {
        none = λ base scan. none_above c.args.inst.now c.args.cycle c.args.mode c.args.set.now base _
            (skips c.args.inst.now c.args.cycle c.args.mode c.args.set.now Front base _ n (omega arith)
            (sym c.fills.ensures ∙ w.if-fills.false)
            (rescan c.args.inst.now c.args.cycle c.args.mode c.args.set.now base _ (n + 0) n (omega arith)
            (c.if-go_over.ensures.passed refl base scan)));
        same_front = ap (λ (x : End). x.tasks) w.front-is;
        same_back = refl;
      }
    ]
