use Rattle.line_drawing.proofs.drawing.push_totals.Goals as goal

pub returns : goal.returns
returns c = let h = rw (c.efficiency.ensures, c.efficiency-2.ensures, c.idle-idle.ensures) at
    c.in_ok-write.ensures.bytes in h
