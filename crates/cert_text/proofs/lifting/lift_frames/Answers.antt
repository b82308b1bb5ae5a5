use Rattle.cert_text.proofs.LiftFacts.{frame_of_part}
use Rattle.cert_text.proofs.lifting.lift_frames.Goals as goal

pub lift_frame-requires-clause-frame : goal.lift_frame-requires-clause-frame
lift_frame-requires-clause-frame c =
    frame_of_part c.requires.part.0 _ c.loop-frame.frame-index c.args.part.now c.as_slice-frame-items.result.now
    c.frame-item.result c.requires.part.1 c.as_slice-frame-items.ensures c.len-count.ensures c.loop-frame-test.true
    c.frame-item.is
