use Rattle.std.proofs.Common.{◌≡◌, ℕ, take, refl, sym, arith, length, subst, suc}
use Rattle.sequence_rules.specs.Entries.{is_light}
use Rattle.sequence_check.specs.Walks.{ServesUnit, CoversBelow, needed}
use Rattle.sequence_check.proofs.WalkFacts.{covers_none, walk_takes, walk_lacks, passing_all}
use Rattle.sequence_check.proofs.rows.walk_row.Goals as goal

pub loop-model-init : goal.loop-model-init
loop-model-init c = record {
  covers = covers_none
      (is_light c.args.times.now c.args.reach c.args.charges.now c.args.entry.now.starts c.args.entry.now.least)
      (ServesUnit c.args.times.now c.args.interval c.args.reach c.args.charges.now (take c.args.k c.args.entries.now)
      c.args.entry.now) c.args.cites.now;
  taken = refl;
  few = omega arith;
}

pub returns-then-model-steps : goal.returns-then-model-steps
returns-then-model-steps c = record {
  model = c.loop-model.model;
  below = c.loop-model-test.true;
  walked = refl;
  counts = omega (arith, passing_all c.loop-model.model, c.if-model-steps.true, c.loop-model.invariant.few);
  before = c.loop-model.invariant.covers;
}

pub returns-in-None : goal.returns-in-None
returns-in-None c = (
  c.loop-model-test.true,
  walk_lacks
      (is_light c.args.times.now c.args.reach c.args.charges.now c.args.entry.now.starts c.args.entry.now.least)
      (ServesUnit c.args.times.now c.args.interval c.args.reach c.args.charges.now (take c.args.k c.args.entries.now)
      c.args.entry.now) c.args.cites.now
      c.loop-model.model c.loop-model.taken c.loop-model.invariant.taken (c.in-None.ensures.none refl)
      c.loop-model.invariant.covers,
  omega (arith, passing_all (suc c.loop-model.model)),
  omega (arith, c.if-model-steps.false),
)

pub loop-model-preserved : goal.loop-model-preserved
loop-model-preserved c =
    let taken = walk_takes
    (is_light c.args.times.now c.args.reach c.args.charges.now c.args.entry.now.starts c.args.entry.now.least)
    (ServesUnit c.args.times.now c.args.interval c.args.reach c.args.charges.now (take c.args.k c.args.entries.now)
    c.args.entry.now) c.args.cites.now
    c.loop-model.model c.loop-model.taken c.in-Some.more c.loop-model.invariant.taken c.in-Some.ensures.some
    c.loop-model.invariant.covers in
    record { covers = taken.0; taken = taken.1; few = omega (arith, c.if-model-steps.false) }

pub returns : goal.returns
returns c =
    let end : c.loop-model.model ≡ length c.args.charges.now =
    omega (arith, c.loop-model-test.false, c.loop-model.auto.model-end) in
    let P : ℕ → Type 0 = λ n. CoversBelow
    (is_light c.args.times.now c.args.reach c.args.charges.now c.args.entry.now.starts c.args.entry.now.least)
    (ServesUnit c.args.times.now c.args.interval c.args.reach c.args.charges.now (take c.args.k c.args.entries.now)
    c.args.entry.now) c.args.cites.now n in
    let Q : ℕ → Type 0 = λ n. c.loop-model.taken ≡ needed
    (is_light c.args.times.now c.args.reach c.args.charges.now c.args.entry.now.starts c.args.entry.now.least)
    (ServesUnit c.args.times.now c.args.interval c.args.reach c.args.charges.now (take c.args.k c.args.entries.now)
    c.args.entry.now) c.args.cites.now n in (
      subst P end c.loop-model.invariant.covers,
      subst Q end c.loop-model.invariant.taken,
      sym (passing_all (length c.args.charges.now)),
      omega (arith, end, c.loop-model.invariant.few),
    )
