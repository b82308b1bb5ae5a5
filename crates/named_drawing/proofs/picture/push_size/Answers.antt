use Rattle.named_drawing.proofs.picture.push_size.Goals as goal

pub returns : goal.returns
returns c = let h = rw (c.width-width.ensures, c.height-height.ensures) at c.in_ok-write.ensures.bytes in h
