use Rattle.warm_sequence.specs.Warm.{untaken}
use Rattle.warm_sequence.specs.inner.Keeping.{taking}
use Rattle.warm_sequence.proofs.KeepFacts.{takes_next}
use Rattle.warm_sequence.proofs.warming.go_over.Goals as goal

pub take-requires-clause-old : goal.take-requires-clause-old
take-requires-clause-old c = c.requires.old c.loop-k.k c.at.result.now c.at.ensures

pub loop-k-preserved : goal.loop-k-preserved
loop-k-preserved c = record {
  taken = takes_next c.args.times.now c.args.interval c.args.reach c.args.charges.now c.args.room untaken
      c.args.old.now c.loop-k.k (taking c.loop-k.warming) (taking c.take.new.self) c.at.result.now c.at.ensures
      c.loop-k.invariant.taken c.in_ok-take.ensures.taken;
  sound = c.in_ok-take.ensures.sound;
}
