use Rattle.std.proofs.Common.{arith, subst, ℕ}
use Rattle.in2_reader.specs.Written.{AreCoversTo}
use Rattle.in2_reader.proofs.CollectedPairs.{row_collected}
use Rattle.in2_reader.proofs.writing.push_covers.Goals as goal

pub returns : goal.returns
returns c =
    let P : ℕ → Type 0 = λ j. AreCoversTo c.args.inst.now c.loop-j.pairs.items c.args.i j in
    row_collected c.args.inst.now c.loop-j.pairs.items c.args.i c.tasks-j-end.ensures.line
    (subst P (omega (arith, c.tasks-j-end.ensures.tasks, c.loop-j.auto.j-end)) c.loop-j.invariant)
