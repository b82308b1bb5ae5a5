use Rattle.std.proofs.Common.{◌∙◌, refl, ap, sym, arith, ◌-◌, ◌+◌}
use Rattle.in2_reader.specs.inner.Draft.{times_in}
use Rattle.in2_reader.specs.Contents.{contents_from, lines_in}
use Rattle.in2_reader.proofs.LinesSoFar.{fails, none_left, next_time, with_front, front_time}
use Rattle.in2_reader.proofs.draft.read_times.Goals as goal

pub returns-in-Err-clause-exact : goal.returns-in-Err-clause-exact
returns-in-Err-clause-exact c =
    fails c.fault.result c.in-Err.end _ _ _ c.fault.ensures (c.in-Err.ensures.1 ∙ c.loop-i.invariant.same)
    (none_left (lines_in c.args.line c.args.text.now) c.args.tasks c.loop-i.i c.loop-i.times.items _ _
    c.loop-i-test.true c.in-Err.ensures.0 c.loop-i.invariant.told)

pub returns-in-NotANumber-clause-exact : goal.returns-in-NotANumber-clause-exact
returns-in-NotANumber-clause-exact c =
    fails c.fault-in-NotANumber.result c.in-Ok.content.line _ _ _ c.fault-in-NotANumber.ensures refl
    (next_time _ c.args.tasks c.loop-i.i c.loop-i.times.items _ _ _ _ _ c.loop-i-test.true c.in-Ok.ensures.0
    (sym c.in-NotANumber.is ∙ c.whole.ensures.number) c.loop-i.invariant.told)

pub returns-in-Above-clause-exact : goal.returns-in-Above-clause-exact
returns-in-Above-clause-exact c =
    fails c.fault-in-Above.result c.in-Ok.content.line _ _ _ c.fault-in-Above.ensures refl
    (next_time _ c.args.tasks c.loop-i.i c.loop-i.times.items _ _ _ _ _ c.loop-i-test.true c.in-Ok.ensures.0
    (sym c.in-Above.is ∙ c.whole.ensures.number) c.loop-i.invariant.told)

pub loop-i-preserved : goal.loop-i-preserved
loop-i-preserved c =
    let pushed = c.in_ok-push-in-Value.ensures in
    record {
      same = sym c.in-Ok.ensures.1 ∙ c.loop-i.invariant.same;
      room = omega (arith, c.in-Ok.ensures.2, c.loop-i.invariant.room);
      told =
          ap (λ ts. with_front ts (times_in (lines_in c.args.line c.args.text.now) (c.args.tasks - (c.loop-i.i + 1))
          (contents_from (c.in-Ok.content.line + 1) c.in-Ok.content.rest.now))) pushed.items
          ∙ sym (front_time c.loop-i.times.items c.in-Value.time
          (times_in (lines_in c.args.line c.args.text.now) (c.args.tasks - (c.loop-i.i + 1))
          (contents_from (c.in-Ok.content.line + 1) c.in-Ok.content.rest.now)))
          ∙ sym (next_time _ c.args.tasks c.loop-i.i c.loop-i.times.items _ _ _ _ _ c.loop-i-test.true c.in-Ok.ensures.0
          (sym c.in-Value.is ∙ c.whole.ensures.number) c.loop-i.invariant.told);
    }
