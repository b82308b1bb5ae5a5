use Rattle.timeline_drawing.proofs.drawing.push_ends.Goals as goal

pub returns : goal.returns
returns c =
    let h = rw (c.panel_x-x.ensures.x, c.panel-panel.ensures, c.position.ensures.place)
    at c.in_ok-write.ensures.bytes in
    h
