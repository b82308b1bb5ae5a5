use Rattle.named_drawing.proofs.named_rows.push_number.Goals as goal

pub returns : goal.returns
returns c = let h = rw (c.middle_of-middle.ensures, c.from.ensures) at c.in_ok-write.ensures.bytes in h
