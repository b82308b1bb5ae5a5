use Rattle.std.proofs.Common.{take, subst, sym}
use Rattle.sequence_values.specs.declared.types.SeqWhy.{SeqWhy}
use Rattle.sequence_check.specs.Faults.{IsFoundBy}
use Rattle.sequence_check.proofs.entries.check_entry.Goals as goal

pub returns-in-Bound : goal.returns-in-Bound
returns-in-Bound c =
    let P : SeqWhy → Type 0 = λ w. IsFoundBy c.args.times.now c.args.interval c.args.reach c.args.charges.now
    (take c.args.k c.args.entries.now) c.args.entry.now w c.args.steps c.check_bound.result in
    subst P (sym c.in-Bound.is)
    (c.check_bound.ensures c.args.charges.now (take c.args.k c.args.entries.now) c.args.steps)
