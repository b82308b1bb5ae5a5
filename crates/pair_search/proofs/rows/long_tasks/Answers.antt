use Rattle.pair_search.proofs.RowFacts.{long_start}
use Rattle.pair_search.proofs.rows.long_tasks.Goals as goal

pub loop-j-init : goal.loop-j-init
loop-j-init c = record {
  can_next = tt;
  finite = tt;
  left = long_start c.args.inst.now c.args.cycle c.all-all.result _ c.all-all.ensures.value c.all-all.ensures.set.truths
      c.into_iter-j-iterator.ensures.into_iter_gives;
}
