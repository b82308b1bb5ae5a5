use Rattle.std.proofs.Common.{get_or, refl, arith}
use Rattle.entry_lists.proofs.MarkFacts.{contains_at, marked_more}
use Rattle.entry_lists.proofs.trimming.mark_all.Goals as goal

pub bounds-marks-cite : goal.bounds-marks-cite
bounds-marks-cite c = omega (
  arith,
  c.requires _ (contains_at c.args.cites.now c.loop-cite.cite-index
      (get_or c.args.cites.now c.loop-cite.cite-index 0) 0 c.loop-cite-test.true refl),
)

pub loop-cite-preserved : goal.loop-cite-preserved
loop-cite-preserved c =
    marked_more c.args.marks.now c.loop-cite.marks c.args.cites.now c.loop-cite.cite-index c.loop-cite-test.true
    (c.requires _ (contains_at c.args.cites.now c.loop-cite.cite-index
    (get_or c.args.cites.now c.loop-cite.cite-index 0) 0 c.loop-cite-test.true refl)) c.loop-cite.invariant
