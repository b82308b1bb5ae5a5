use Rattle.std.proofs.Common.{arith}
use Rattle.line_check.proofs.ListFacts.{all_right}
use Rattle.wide_check.proofs.batches.entries_found.Goals as goal

pub returns : goal.returns
returns g c = all_right c.args.kind c.args.inst.now c.args.entries.now c.loop-from.from c.loop-from.units c.args.steps
    (omega (arith, c.loop-from-test.false, c.len.ensures)) c.loop-from.invariant.few c.loop-from.invariant.below
