use Rattle.std.proofs.Common.{◌∙◌, ap, sym}
use Rattle.named_drawing.specs.Page.{page_of}
use Rattle.named_drawing.specs.NamedDrawing.{named_claim, named_picture}
use Rattle.named_drawing.proofs.picture.drawn.Goals as goal

pub returns-in_ok-text-in-Bounds : goal.returns-in_ok-text-in-Bounds
returns-in_ok-text-in-Bounds c =
    let line = c.args.inst.now in
    let cert = c.args.cert.now in
    let names = c.args.names.now in
    let b = c.in-Bounds.balance in
    c.in_ok-text-in-Bounds.ensures
    ∙ ap (λ p. named_picture line p names cert.ask c.in-Bounds.lower c.in-Bounds.upper b)
    c.in_ok-page-in-Bounds.ensures.value
    ∙ ap (λ x. named_picture line (page_of line cert.kind x names b) names cert.ask c.in-Bounds.lower c.in-Bounds.upper
    b)
    c.upper_cycle-cycle.ensures
    ∙ ap (named_claim line names cert.kind cert.ask) (sym c.in-Bounds.is)
