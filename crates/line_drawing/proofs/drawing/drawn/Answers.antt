use Rattle.std.proofs.Common.{◌∙◌, ap, sym}
use Rattle.line_drawing.specs.Drawing.{claim_text, picture_text}
use Rattle.line_drawing.specs.Figures.{figures_of}
use Rattle.line_drawing.proofs.drawing.drawn.Goals as goal

pub returns-in_ok-text-in-Bounds : goal.returns-in_ok-text-in-Bounds
returns-in_ok-text-in-Bounds c =
    let line = c.args.inst.now in
    let cert = c.args.cert.now in
    let b = c.in-Bounds.balance in
    c.in_ok-text-in-Bounds.ensures
    ∙ ap (λ f. picture_text line f cert.ask c.in-Bounds.lower c.in-Bounds.upper b)
    c.in_ok-figures-in-Bounds.ensures.value
    ∙ ap (λ x. picture_text line (figures_of line cert.kind x b) cert.ask c.in-Bounds.lower c.in-Bounds.upper b)
    c.upper_cycle-cycle.ensures
    ∙ ap (claim_text line cert.kind cert.ask) (sym c.in-Bounds.is)
