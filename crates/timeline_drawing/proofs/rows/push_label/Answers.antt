use Rattle.timeline_drawing.proofs.rows.push_label.Goals as goal

pub returns : goal.returns
returns c = let h = rw c.from.ensures at c.in_ok-write.ensures.bytes in h
