use Rattle.line_drawing.proofs.DrawingFacts.{drawing_true}
use Rattle.line_drawing.proofs.PictureSizes.{drawing_fits}
use Rattle.line_drawing.proofs.drawing.draw_text.Goals as goal

pub returns-clause-true_picture : goal.returns-clause-true_picture
returns-clause-true_picture c = drawing_true c.args.inst.now c.args.cert.now c.tasks-tasks.ensures.line
    c.tasks-tasks.ensures.ranked c.requires.range c.requires.right

pub returns-clause-size : goal.returns-clause-size
returns-clause-size c = drawing_fits c.args.inst.now c.args.cert.now c.tasks-tasks.ensures.line
    c.tasks-tasks.ensures.ranked c.requires.range c.requires.right
