use Rattle.timeline_drawing.specs.Visits.{course}
use Rattle.timeline_drawing.proofs.TruthFacts.{picture_true}
use Rattle.timeline_drawing.proofs.drawing.timeline_picture.Goals as goal

pub returns-then-sequence-gt-MAX_UNITS-clause-true_picture : goal.returns-then-sequence-gt-MAX_UNITS-clause-true_picture
returns-then-sequence-gt-MAX_UNITS-clause-true_picture c =
    let a = c.args in
    picture_true (course a.mix.now a.balance.now a.sequence.now a.interval a.reach)

pub returns-in-Ok-clause-true_picture : goal.returns-in-Ok-clause-true_picture
returns-in-Ok-clause-true_picture c =
    let a = c.args in
    picture_true (course a.mix.now a.balance.now a.sequence.now a.interval a.reach)

pub returns-in-Err-clause-true_picture : goal.returns-in-Err-clause-true_picture
returns-in-Err-clause-true_picture c =
    let a = c.args in
    picture_true (course a.mix.now a.balance.now a.sequence.now a.interval a.reach)
