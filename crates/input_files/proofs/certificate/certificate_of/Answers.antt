use Rattle.std.proofs.Common.{refl, sym, subst, inr}
use Rattle.command_outcome.specs.Outcome.{Stops, outside}
use Rattle.input_files.specs.Certificate.{IsNoCertificate}
use Rattle.input_files.proofs.InputFacts.{faulty_certificate}
use Rattle.input_files.proofs.certificate.certificate_of.Goals as goal

pub returns-in_ok-text-in-Fault-clause-said : goal.returns-in_ok-text-in-Fault-clause-said
returns-in_ok-text-in-Fault-clause-said g c = λ t.
    subst (λ s. Stops (IsNoCertificate (outside (g.S.Shelf.file c.args.shelf.now)
    (g.S.Shelf.blames c.cert_from.new.shelf)) c.args.file.now) s) (sym c.refuse.ensures)
    (inr (faulty_certificate (g.S.Shelf.file c.args.shelf.now c.args.file.now) 4294967296 c.in-Fault.fault
    c.in_ok-text-in-Fault.text.items (c.in-Fault.ensures.read t) (c.in-Fault.ensures.none t c.in-Fault.fault refl)
    (c.in-Fault.ensures.none_newest t c.in-Fault.fault refl) (c.in-Fault.ensures.none_old t c.in-Fault.fault refl)
    c.in_ok-text-in-Fault.ensures))
