use Rattle.std.proofs.Common.{◌≡◌, Some, refl}
use Rattle.cert_text.specs.Cert.{cert_text}
use Rattle.command_outcome.specs.Outcome.{outcome_of}
use Rattle.command_outcome.proofs.WrittenFacts.{comes, cut}
use Rattle.command_outcome.specs.Found.{page_of}
use Rattle.solution_page.proofs.WrittenFacts.{same_page}
use Rattle.solution_page.proofs.page.written.Goals as goal

pub stream_cert-requires : goal.stream_cert-requires
stream_cert-requires g c = c.requires.sayable c.in-Line.certificate c.in-Line.is

pub returns-in-Done-clause-ends : goal.returns-in-Done-clause-ends
returns-in-Done-clause-ends g c = λ t files same cert kept.
    let r = c.args.report in
    let name = c.args.name.now in
    let mine = c.in-Line.certificate in
    comes (λ out. out ≡ outcome_of r (page_of (Some name) (cert_text cert))) r name (cert_text mine) (cert_text mine) files
    (g.S.Shelf.file c.args.shelf.now) (g.S.Shelf.file c.stream_cert.new.shelf)
    (g.S.Shelf.blames c.stream_cert.new.shelf) (same_page name r mine cert c.in-Line.is kept) refl same
    (c.in-Done.ensures.done t refl) (c.in-Done.ensures.others t)

pub returns-in-WriteFault-clause-ends : goal.returns-in-WriteFault-clause-ends
returns-in-WriteFault-clause-ends g c = λ t files same cert kept.
    let r = c.args.report in
    let name = c.args.name.now in
    let mine = c.in-Line.certificate in
    cut (λ out. out ≡ outcome_of r (page_of (Some name) (cert_text cert))) r name (cert_text mine) (cert_text mine) files
    (g.S.Shelf.file c.args.shelf.now) (g.S.Shelf.file c.stream_cert.new.shelf)
    (g.S.Shelf.blames c.stream_cert.new.shelf) (same_page name r mine cert c.in-Line.is kept) refl same
    (c.in-WriteFault.ensures.blame t refl) (c.in-WriteFault.ensures.prefix t) (c.in-WriteFault.ensures.others t)
