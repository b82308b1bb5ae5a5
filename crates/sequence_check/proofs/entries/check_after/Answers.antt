use Rattle.std.proofs.Common.{◌≡◌, List, take, sym, subst, arith}
use Rattle.std.proofs.lemmas.List.{take_all}
use Rattle.sequence_values.specs.declared.types.SeqEntry.{SeqEntry}
use Rattle.sequence_rules.specs.Entries.{Follows}
use Rattle.sequence_check.proofs.RefusalFacts.{fails_not, entry_spends}
use Rattle.sequence_check.proofs.entries.check_after.Goals as goal

pub returns-in-Fails-clause-ruled_out : goal.returns-in-Fails-clause-ruled_out
returns-in-Fails-clause-ruled_out c = λ f.
    let whole : take c.len-many.result c.args.before.now ≡ c.args.before.now =
    take_all c.len-many.result c.args.before.now (omega (arith, c.len-many.ensures)) in
    let P : List SeqEntry → Type 0 = λ es. Follows c.args.times.now c.args.interval c.args.reach c.args.charges.now es
    c.args.entry.now in
    fails_not c.args.times.now c.args.interval c.args.reach c.args.charges.now
    (take c.len-many.result c.args.before.now) c.args.entry.now c.in-Fails.why c.in-Fails.units c.in-Fails.ensures.0
    (subst P (sym whole) f)

pub returns-in-StepsEnded-clause-ruled_out : goal.returns-in-StepsEnded-clause-ruled_out
returns-in-StepsEnded-clause-ruled_out c = λ f.
    entry_spends c.args.times.now c.args.interval c.args.reach c.args.charges.now
    (take c.len-many.result c.args.before.now) c.args.entry.now c.args.steps c.in-StepsEnded.ensures
