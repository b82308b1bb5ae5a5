use Rattle.std.proofs.Common.{◌≡◌, option_map, ap, refl, List, ℕ, Option, None}
use Rattle.std.proofs.Math.Path.{subst⁻¹}
use Rattle.command_outcome.specs.Outcome.{Files, Outside, Comes, Ends, outcome_of, outside}
use Rattle.cert_text.specs.Cert.{cert_text}
use Rattle.command_outcome.specs.Found.{page_of, HasText}
use Rattle.solution_page.proofs.page.write_certificate.Goals as goal

pub returns-in-None-clause-ends : goal.returns-in-None-clause-ends
returns-in-None-clause-ends g c = λ t files same cert kept.
    let r = c.args.report in
    let after : Files = g.S.Shelf.file c.args.shelf.now in
    let o : Outside = outside files (g.S.Shelf.blames c.args.shelf.now) in
    subst⁻¹ (λ (n : Option (List ℕ)). Comes o (λ out. out ≡ outcome_of r (page_of n (cert_text cert))) after r)
    (ap (option_map (λ a. a.now)) c.in-None.is) (record { page = None; reached = refl; written = same })

pub returns-in-None-clause-certificate : goal.returns-in-None-clause-certificate
returns-in-None-clause-certificate g c = λ t cert kept.
    let after : Files = g.S.Shelf.file c.args.shelf.now in
    subst⁻¹ (λ (n : Option (List ℕ)). HasText n after (cert_text cert)) (ap (option_map (λ a. a.now)) c.in-None.is) tt

pub returns-in-Some-clause-ends : goal.returns-in-Some-clause-ends
returns-in-Some-clause-ends g c = λ t files same cert kept.
    let r = c.args.report in
    let after : Files = g.S.Shelf.file c.written.new.shelf in
    let o : Outside = outside files (g.S.Shelf.blames c.written.new.shelf) in
    subst⁻¹ (λ (n : Option (List ℕ)). Ends o (λ out. out ≡ outcome_of r (page_of n (cert_text cert))) after c.written.result)
    (ap (option_map (λ a. a.now)) c.in-Some.is) (c.written.ensures.ends t files same cert kept)

pub returns-in-Some-clause-unwritten : goal.returns-in-Some-clause-unwritten
returns-in-Some-clause-unwritten g c = λ e. (c.in-Some.name.now, ap (option_map (λ a. a.now)) c.in-Some.is)
