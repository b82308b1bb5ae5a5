use Rattle.std.proofs.Common.{◌∙◌, sym, arith}
use Rattle.std.proofs.lemmas.Bool.{false≢true}
use Rattle.station_load.proofs.ScanTurns.{gives_up_at, passes_at, joined_at}
use Rattle.station_load.proofs.places.climb.Goals as goal

pub loop-place-preserved-then-stands : goal.loop-place-preserved-then-stands
loop-place-preserved-then-stands c = record {
  low = omega (arith, c.loop-place.invariant.low);
  scan = gives_up_at c.args.inst.now c.args.cycle c.args.mode c.args.set.now c.args.side c.args.base.now
      c.loop-place.load c.loop-place.place c.loop-place-test.true c.loop-place.invariant.low c.task_at-task.result
      c.task_at-task.ensures.task c.loop-place.invariant.scan
      c.take.new.load c.take.ensures (sym c.stands.ensures ∙ c.if-stands.true);
}

pub returns-then-may_join-clause-joined : goal.returns-then-may_join-clause-joined
returns-then-may_join-clause-joined c = λ e.
    joined_at c.args.inst.now c.args.cycle c.args.mode c.args.set.now c.args.side c.args.base.now c.loop-place.load
    c.loop-place.place c.loop-place-test.true c.loop-place.invariant.low c.task_at-task.result
    c.task_at-task.ensures.task c.loop-place.invariant.scan
    c.put.new.load c.put.ensures (sym c.stands.ensures ∙ c.if-stands.false) (sym c.fills.ensures ∙ c.if-not-fills.false)
    (c.may_join.ensures.0 c.if-may_join.true)

pub loop-place-preserved : goal.loop-place-preserved
loop-place-preserved c = record {
  low = omega (arith, c.loop-place.invariant.low);
  scan = passes_at c.args.inst.now c.args.cycle c.args.mode c.args.set.now c.args.side c.args.base.now c.loop-place.load
      c.loop-place.place c.loop-place-test.true c.loop-place.invariant.low c.task_at-task.result
      c.task_at-task.ensures.task c.loop-place.invariant.scan
      (sym c.stands.ensures ∙ c.if-stands.false) (λ m. false≢true (sym c.if-may_join.false ∙ c.may_join.ensures.1 m));
}
