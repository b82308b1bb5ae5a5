use Rattle.pair_search.proofs.KeptTasks.{kept_go}
use Rattle.pair_search.proofs.RowFacts.{row_start}
use Rattle.pair_search.proofs.rows.row_of.Goals as goal

pub loop-j-init : goal.loop-j-init
loop-j-init c = record {
  can_next = tt;
  finite = tt;
  left = row_start c.args.kind c.args.inst.now c.args.cycle c.args.long.now c.args.i c.without-others.result _
      c.without-others.ensures.value c.without-others.ensures.truths c.into_iter-j-iterator.ensures.into_iter_gives;
}

pub loop-j-preserved-then-conflict : goal.loop-j-preserved-then-conflict
loop-j-preserved-then-conflict c = record {
  can_next = tt;
  finite = tt;
  left = kept_go c.loop-j.invariant.left c.in-Some.ensures.steps (c.conflict.ensures.0 c.if-conflict.true)
      c.remove.new.self c.remove.ensures.value;
}
