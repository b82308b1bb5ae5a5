use Rattle.std.proofs.Common.{◌≡◌, Some, refl}
use Rattle.command_outcome.specs.Outcome.{outcome_of}
use Rattle.command_outcome.proofs.WrittenFacts.{comes, cut}
use Rattle.command_outcome.proofs.page.write_page.Goals as goal

pub returns-in-Done-clause-ends : goal.returns-in-Done-clause-ends
returns-in-Done-clause-ends g c = λ t files same.
    let r = c.args.report in
    let name = c.args.name.now in
    let bytes = c.args.bytes.now in
    comes (λ out. out ≡ outcome_of r (Some (record { name = name; bytes = bytes }))) r name bytes bytes files
    (g.S.Shelf.file c.args.shelf.now) (g.S.Shelf.file c.write_whole.new.shelf)
    (g.S.Shelf.blames c.write_whole.new.shelf) refl refl same (c.in-Done.ensures.done t refl)
    (c.in-Done.ensures.others t)

pub returns-in-WriteFault-clause-ends : goal.returns-in-WriteFault-clause-ends
returns-in-WriteFault-clause-ends g c = λ t files same.
    let r = c.args.report in
    let name = c.args.name.now in
    let bytes = c.args.bytes.now in
    cut (λ out. out ≡ outcome_of r (Some (record { name = name; bytes = bytes }))) r name bytes bytes files
    (g.S.Shelf.file c.args.shelf.now) (g.S.Shelf.file c.write_whole.new.shelf)
    (g.S.Shelf.blames c.write_whole.new.shelf) refl refl same (c.in-WriteFault.ensures.blame t refl)
    (c.in-WriteFault.ensures.prefix t) (c.in-WriteFault.ensures.others t)
