use Rattle.std.proofs.Common.{take, refl, arith}
use Rattle.sequence_rules.specs.Entries.{is_left, needs_cite}
use Rattle.sequence_check.specs.Walks.{AnswersStep}
use Rattle.sequence_check.proofs.WalkFacts.{count_yes, some_left, left_more, covers_none, walk_takes, walk_lacks}
use Rattle.sequence_check.proofs.walks.walk.Goals as goal

pub loop-model-init : goal.loop-model-init
loop-model-init c = record {
  covers = covers_none
      (needs_cite c.args.times.now c.args.interval c.args.reach c.args.rem.now c.args.starts.now c.args.need)
      (AnswersStep c.args.times.now c.args.interval c.args.reach c.args.charges.now (take c.args.k c.args.entries.now)
      c.args.rem.now c.args.starts.now c.args.need) c.args.cites.now;
  taken = refl;
  units = refl;
  few = omega arith;
}

pub returns-in-None : goal.returns-in-None
returns-in-None c = (
  c.loop-model-test.true,
  walk_lacks
      (needs_cite c.args.times.now c.args.interval c.args.reach c.args.rem.now c.args.starts.now c.args.need)
      (AnswersStep c.args.times.now c.args.interval c.args.reach c.args.charges.now (take c.args.k c.args.entries.now)
      c.args.rem.now c.args.starts.now c.args.need) c.args.cites.now
      c.loop-model.model c.loop-model.taken c.loop-model.invariant.taken (c.in-None.ensures.none refl)
      c.loop-model.invariant.covers,
  omega (
    arith,
    c.loop-model.invariant.units,
    left_more c.args.rem.now c.loop-model.model
        (omega (arith, c.if-rem-model-eq0.false)),
  ),
  omega (arith, c.if-units-steps.false),
)

pub loop-model-preserved : goal.loop-model-preserved
loop-model-preserved c =
    let left = some_left c.args.rem.now c.loop-model.model (omega (arith, c.if-rem-model-eq0.false)) in
    let taken = walk_takes
    (needs_cite c.args.times.now c.args.interval c.args.reach c.args.rem.now c.args.starts.now c.args.need)
    (AnswersStep c.args.times.now c.args.interval c.args.reach c.args.charges.now (take c.args.k c.args.entries.now)
    c.args.rem.now c.args.starts.now c.args.need) c.args.cites.now
    c.loop-model.model c.loop-model.taken c.in-Some.more c.loop-model.invariant.taken c.in-Some.ensures.some
    c.loop-model.invariant.covers in
    record {
      covers = taken.0;
      taken = taken.1;
      units = omega (arith, c.loop-model.invariant.units, count_yes (is_left c.args.rem.now) c.loop-model.model left);
      few = omega (arith, c.if-units-steps.false);
    }
