use Rattle.cycle_search.proofs.BehindFacts.{frames_behind_none, frame_cites}
use Rattle.cycle_search.proofs.joining.raise_frames.Goals as goal

pub returns-then-earlier-eq0 : goal.returns-then-earlier-eq0
returns-then-earlier-eq0 c = frames_behind_none c.args.earlier c.args.frames c.if-earlier-eq0.true

pub raise_frame-requires-clause-frame : goal.raise_frame-requires-clause-frame
raise_frame-requires-clause-frame c =
    frame_cites c.args.count c.loop-frame.frame-index c.args.frames c.as_slice-frame-items.result.now
    c.frame-item.result c.requires.cites c.as_slice-frame-items.ensures c.loop-frame-test.true c.frame-item.is
