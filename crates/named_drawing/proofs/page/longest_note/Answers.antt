use Rattle.std.proofs.Common.{◌∙◌, ◌+◌, ◌<◌, List, length, subst, sym}
use Rattle.std.specs.Prelude.{All}
use Rattle.line_drawing.specs.declared.segments.Segment.{Segment}
use Rattle.named_drawing.proofs.RowFacts.{segments_named}
use Rattle.named_drawing.proofs.page.longest_note.Goals as goal

pub named_note-requires : goal.named_note-requires
named_note-requires c =
    let P : List Segment → Type 0 = λ ss. All (λ s. s.task < length c.args.names.now) ss in
    subst P (sym (c.deref.ensures.value ∙ c.in_ok-segments.ensures))
    (segments_named c.args.inst.now c.tasks-tasks.ensures.line c.tasks-tasks.ensures.ranked c.args.places.now
    (c.loop-station.station + 1) c.args.cycle (length c.args.names.now) c.requires.named)
