use Rattle.std.proofs.Common.{refl}
use Rattle.warm_sequence.specs.inner.Keeping.{taking}
use Rattle.warm_sequence.proofs.OneKept.{one_kept}
use Rattle.warm_sequence.proofs.warming.warm_seq.Goals as goal

pub returns-in-Ok-clause-one : goal.returns-in-Ok-clause-one
returns-in-Ok-clause-one c = λ other h. one_kept c.args.times.now c.args.interval c.args.reach c.args.charges.now
    c.args.room c.args.old.now c.in-Ok.warming.kept other (taking c.in-Ok.warming, (c.in-Ok.ensures.taken, refl)) h
