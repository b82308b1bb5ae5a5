use Rattle.named_drawing.proofs.picture.push_end.Goals as goal

pub returns : goal.returns
returns c = let h = rw c.from.ensures at c.in_ok-write.ensures.bytes in h
