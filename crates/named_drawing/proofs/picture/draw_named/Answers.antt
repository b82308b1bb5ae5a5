use Rattle.line_drawing.proofs.DrawingFacts.{drawing_true}
use Rattle.named_drawing.proofs.LabelledFacts.{drawing_labels}
use Rattle.named_drawing.proofs.ListFacts.{drawing_lists}
use Rattle.named_drawing.proofs.NameFacts.{name_short, name_text}
use Rattle.named_drawing.proofs.WholeSize.{drawing_fits}
use Rattle.named_drawing.proofs.XmlPicture.{drawing_formed}
use Rattle.named_drawing.proofs.picture.draw_named.Goals as goal

pub returns-clause-true_picture : goal.returns-clause-true_picture
returns-clause-true_picture c = drawing_true c.args.inst.now c.args.cert.now c.tasks-tasks.ensures.line
    c.tasks-tasks.ensures.ranked c.requires.range c.requires.right

pub returns-clause-listed : goal.returns-clause-listed
returns-clause-listed c = drawing_lists c.args.inst.now c.tasks-tasks.ensures.line.small c.args.names.now
    c.args.cert.now

pub returns-clause-labels : goal.returns-clause-labels
returns-clause-labels c = drawing_labels c.args.inst.now c.args.names.now c.args.cert.now

pub returns-clause-size : goal.returns-clause-size
returns-clause-size c = drawing_fits c.args.inst.now c.args.names.now c.args.cert.now c.tasks-tasks.ensures.line
    c.tasks-tasks.ensures.ranked c.requires.range c.requires.right
    (name_short c.args.names.now c.len-many.ensures.names)

pub returns-clause-xml : goal.returns-clause-xml
returns-clause-xml c = drawing_formed c.args.inst.now c.args.names.now c.args.cert.now c.requires.right
    (name_text c.args.names.now c.len-many.ensures.names)
