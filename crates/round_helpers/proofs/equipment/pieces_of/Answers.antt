use Rattle.std.proofs.Common.{◌≤◌, length, ◌∙◌, arith}
use Rattle.round_helpers.proofs.PieceFacts.{pieces_none, pieces_count, pieces_next, pieces_all}
use Rattle.round_helpers.proofs.equipment.pieces_of.Goals as goal

pub loop-k-init : goal.loop-k-init
loop-k-init c = record {
  some = omega arith;
  pieces = c.in_ok-pieces.ensures.items ∙ pieces_none c.args.most c.args.jobs.now;
  room = c.in_ok-pieces.ensures.capacity;
}

pub push_reserved-requires : goal.push_reserved-requires
push_reserved-requires c =
    let l : c.loop-k.k ≤ length c.args.jobs.now = omega (arith, c.loop-k-test.true) in
    omega (
      arith,
      pieces_count c.args.most c.loop-k.k c.args.jobs.now c.loop-k.pieces.items c.loop-k.invariant.pieces l,
      c.loop-k.pieces.ok.0,
      c.loop-k.invariant.room,
      c.loop-k-test.true,
    )

pub loop-k-preserved : goal.loop-k-preserved
loop-k-preserved c = record {
  some = omega (arith, c.loop-k-test.true);
  pieces = pieces_next c.args.most c.loop-k.k c.args.jobs.now c.index-jobs-k.result c.loop-k.pieces.items
      c.push_reserved.new.self.items c.loop-k.invariant.pieces c.loop-k-test.true c.push_reserved.ensures.items;
  room = omega (arith, c.loop-k.invariant.room, c.push_reserved.ensures.capacity);
}

pub returns : goal.returns
returns c =
    pieces_all c.args.most c.loop-k.k c.args.jobs.now c.loop-k.pieces.items c.loop-k.invariant.pieces
    c.loop-k-test.false
