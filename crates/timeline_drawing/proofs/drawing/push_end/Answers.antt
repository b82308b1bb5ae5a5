use Rattle.timeline_drawing.proofs.drawing.push_end.Goals as goal

pub returns : goal.returns
returns c = let h = rw c.panel.ensures at c.in_ok-write.ensures.bytes in h
