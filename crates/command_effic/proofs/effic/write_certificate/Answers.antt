use Rattle.std.proofs.Common.{◌≡◌, ◌∙◌, option_map, ap, refl, List, ℕ, Option, Some, None}
use Rattle.std.proofs.Math.Path.{subst⁻¹}
use Rattle.command_outcome.specs.Found.{HasText, page_of}
use Rattle.command_outcome.specs.Outcome.{Files, Outside, Comes, IsCut, outcome_of, outside}
use Rattle.command_outcome.proofs.WrittenFacts.{comes, cut}
use Rattle.effic_cert.specs.Product.{product_text}
use Rattle.command_effic.proofs.FoundFacts.{same_page, same_text}
use Rattle.command_effic.proofs.effic.write_certificate.Goals as goal

pub write_effic-requires : goal.write_effic-requires
write_effic-requires g c = c.requires.sayable c.in-Product.cert c.in-Product.is

pub returns-in-None-clause-ends : goal.returns-in-None-clause-ends
returns-in-None-clause-ends g c = λ t files same cert kept.
    let r = c.args.report in
    let after : Files = g.S.Shelf.file c.args.shelf.now in
    let o : Outside = outside files (g.S.Shelf.blames c.args.shelf.now) in
    subst⁻¹ (λ (n : Option (List ℕ)). Comes o (λ out. out ≡ outcome_of r (page_of n (product_text cert))) after r)
    (ap (option_map (λ a. a.now)) c.in-None.is) (record { page = None; reached = refl; written = same })

pub returns-in-None-clause-certificate : goal.returns-in-None-clause-certificate
returns-in-None-clause-certificate g c = λ t cert kept.
    let after : Files = g.S.Shelf.file c.args.shelf.now in
    subst⁻¹ (λ (n : Option (List ℕ)). HasText n after (product_text cert)) (ap (option_map (λ a. a.now)) c.in-None.is)
    tt

pub returns-in-Done-clause-ends : goal.returns-in-Done-clause-ends
returns-in-Done-clause-ends g c = λ t files same cert kept.
    let r = c.args.report in
    let name = c.in-Some.name.now in
    let mine = c.in-Product.cert in
    let mid : Files = g.S.Shelf.file c.args.shelf.now in
    let after : Files = g.S.Shelf.file c.write_whole.new.shelf in
    let blames = g.S.Shelf.blames c.write_whole.new.shelf in
    subst⁻¹ (λ (n : Option (List ℕ)).
    Comes (outside files blames) (λ out. out ≡ outcome_of r (page_of n (product_text cert))) after r)
    (ap (option_map (λ a. a.now)) c.in-Some.is)
    (comes (λ out. out ≡ outcome_of r (page_of (Some name) (product_text cert))) r name (product_text mine)
    c.deref.result.now files mid after blames (same_page name r mine cert c.in-Product.is kept)
    (c.deref.ensures.value ∙ c.in_ok-text.ensures) same (c.in-Done.ensures.done t refl) (c.in-Done.ensures.others t))

pub returns-in-Done-clause-certificate : goal.returns-in-Done-clause-certificate
returns-in-Done-clause-certificate g c = λ t cert kept.
    let after : Files = g.S.Shelf.file c.write_whole.new.shelf in
    subst⁻¹ (λ (n : Option (List ℕ)). HasText n after (product_text cert)) (ap (option_map (λ a. a.now)) c.in-Some.is)
    (c.in-Done.ensures.done t refl ∙ ap (λ (x : List ℕ). Some x) (c.deref.ensures.value ∙ c.in_ok-text.ensures
    ∙ same_text c.args.report.kept c.in-Product.cert cert c.in-Product.is kept))

pub returns-in-WriteFault-clause-ends : goal.returns-in-WriteFault-clause-ends
returns-in-WriteFault-clause-ends g c = λ t files same cert kept.
    let r = c.args.report in
    let name = c.in-Some.name.now in
    let mine = c.in-Product.cert in
    let mid : Files = g.S.Shelf.file c.args.shelf.now in
    let after : Files = g.S.Shelf.file c.write_whole.new.shelf in
    let blames = g.S.Shelf.blames c.write_whole.new.shelf in
    subst⁻¹ (λ (n : Option (List ℕ)).
    IsCut (outside files blames) (λ out. out ≡ outcome_of r (page_of n (product_text cert))) after)
    (ap (option_map (λ a. a.now)) c.in-Some.is)
    (cut (λ out. out ≡ outcome_of r (page_of (Some name) (product_text cert))) r name (product_text mine)
    c.deref.result.now files mid after blames (same_page name r mine cert c.in-Product.is kept)
    (c.deref.ensures.value ∙ c.in_ok-text.ensures) same (c.in-WriteFault.ensures.blame t refl)
    (c.in-WriteFault.ensures.prefix t) (c.in-WriteFault.ensures.others t))

pub returns-in-WriteFault-clause-unwritten : goal.returns-in-WriteFault-clause-unwritten
returns-in-WriteFault-clause-unwritten g c = λ e. (c.in-Some.name.now, ap (option_map (λ a. a.now)) c.in-Some.is)
